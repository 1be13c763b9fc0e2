use Rattle.std.proofs.Common.{◌≡◌, drop}
use Rattle.yaml_maps.specs.Maps.{first_of}
use Rattle.tbd_v4_read.specs.Faults.{group_fault}
use Rattle.tbd_v4_read.proofs.faults.items_fault.Given as goal

abbrev pub invariant-loop-item : goal.invariant-loop-item
invariant-loop-item l = first_of (group_fault l.key l.kind) (drop l.item-index l.items) ≡ first_of (group_fault l.key l.kind) l.items
