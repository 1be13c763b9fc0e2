use Rattle.std.proofs.Common.{◌≡◌, ◌++◌, drop}
use Rattle.std.specs.List.{filter_map}
use Rattle.tbd_v4_read.specs.Library.{target_in}
use Rattle.tbd_v4_read.proofs.library.targets_of.Given as goal

abbrev pub invariant-loop-item : goal.invariant-loop-item
invariant-loop-item l = l.targets.items ++ filter_map target_in (drop l.item-index l.items) ≡ filter_map target_in l.items
