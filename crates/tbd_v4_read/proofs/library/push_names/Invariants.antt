use Rattle.std.proofs.Common.{◌≡◌, ◌++◌, drop}
use Rattle.std.specs.List.{filter_map}
use Rattle.tbd_v4_read.specs.Library.{symbol_in}
use Rattle.tbd_v4_read.proofs.library.push_names.Given as goal

abbrev pub invariant-loop-item : goal.invariant-loop-item
invariant-loop-item l =
    l.names.items ++ filter_map (symbol_in l.said.section l.kind l.said.targets.now) (drop l.item-index l.items)
    ≡ l.fn.names.items ++ filter_map (symbol_in l.said.section l.kind l.said.targets.now) l.items
