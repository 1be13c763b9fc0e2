use Rattle.std.proofs.Common.{◌≡◌, ◌++◌, take}
use Rattle.std.specs.List.{flat_map}
use Rattle.tbd_v4_read.specs.Library.{names_in_group}
use Rattle.tbd_v4_read.proofs.library.push_groups.Given as goal

abbrev pub invariant-loop-item : goal.invariant-loop-item
invariant-loop-item l = l.names.items ≡ l.fn.names.items ++ flat_map (names_in_group l.kind l.section l.targets) (take l.item-index l.items)
