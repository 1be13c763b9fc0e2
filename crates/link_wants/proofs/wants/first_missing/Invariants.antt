use Rattle.std.proofs.Common.{◌≡◌, drop}
use Rattle.link_binding.specs.Libraries.{libraries_seen, seen}
use Rattle.link_checks.proofs.Firsts.{seen_from}
use Rattle.link_wants.specs.Least.{is_missing_by}
use Rattle.link_wants.specs.Wants.{undefined_with}
use Rattle.link_wants.proofs.wants.first_missing.Given as goal

abbrev pub invariant-loop-i : goal.invariant-loop-i
invariant-loop-i g l =
    let libraries = libraries_seen g.S.SharedLib.facts l.libs in
    seen_from (seen g.S.SharedLib.facts) (undefined_with (is_missing_by l.names libraries l.sections) libraries) l.i (drop l.i l.libs)
    ≡ seen_from (seen g.S.SharedLib.facts) (undefined_with (is_missing_by l.names libraries l.sections) libraries) 0 l.libs
