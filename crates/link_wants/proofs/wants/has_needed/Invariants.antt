use Rattle.std.proofs.Common.{◌≡◌, drop}
use Rattle.std.specs.List.{list_all}
use Rattle.link_core.specs.Resolution.{is_soname}
use Rattle.link_binding.specs.Libraries.{libraries_seen}
use Rattle.link_wants.proofs.wants.has_needed.Given as goal

abbrev pub invariant-loop-i : goal.invariant-loop-i
invariant-loop-i g l =
    list_all (is_soname (libraries_seen g.S.SharedLib.facts l.libs)) (drop l.i (g.S.SharedLib.facts l.lib).needed)
    ≡ list_all (is_soname (libraries_seen g.S.SharedLib.facts l.libs)) (g.S.SharedLib.facts l.lib).needed
