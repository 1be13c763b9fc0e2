use Rattle.std.proofs.Common.{◌≡◌, drop}
use Rattle.yaml_maps.specs.Maps.{first_of}
use Rattle.tbd_v4_read.specs.Faults.{unknown_in}
use Rattle.tbd_v4_read.proofs.faults.unknown_among.Given as goal

abbrev pub invariant-loop-item : goal.invariant-loop-item
invariant-loop-item l = first_of (unknown_in l.targets) (drop l.item-index l.items) ≡ first_of (unknown_in l.targets) l.items
