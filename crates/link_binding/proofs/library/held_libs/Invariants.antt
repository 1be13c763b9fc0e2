use Rattle.std.proofs.Common.{◌≡◌, ◌++◌, drop}
use Rattle.std.specs.List.{filter_map}
use Rattle.link_core.specs.Side.{held_by}
use Rattle.link_binding.specs.Libraries.{libraries_seen, side_of}
use Rattle.link_binding.proofs.library.held_libs.Given as goal

abbrev pub invariant-loop-lib : goal.invariant-loop-lib
invariant-loop-lib g l =
    libraries_seen g.S.SharedLib.facts l.held.items ++ filter_map (λ lib. held_by (side_of g.S.SharedLib.facts lib)) (drop l.lib-index l.libs)
    ≡ filter_map (λ lib. held_by (side_of g.S.SharedLib.facts lib)) l.libs
