use Rattle.std.proofs.Common.{◌≡◌, drop}
use Rattle.link_core.specs.Resolution as resolution
use Rattle.link_binding.specs.Libraries.{seen}
use Rattle.link_checks.proofs.Firsts.{seen_from}
use Rattle.link_checks.proofs.inputs.other_library.Given as goal

abbrev pub invariant-loop-i : goal.invariant-loop-i
invariant-loop-i g l =
    seen_from (seen g.S.SharedLib.facts) (resolution.other_library l.machine) l.i (drop l.i l.libs)
    ≡ seen_from (seen g.S.SharedLib.facts) (resolution.other_library l.machine) 0 l.libs
