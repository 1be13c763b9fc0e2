use Rattle.std.proofs.Common.{◌≡◌, drop}
use Rattle.yaml_maps.specs.Maps.{first_of}
use Rattle.tbd_v4_read.specs.Faults.{unknown_in_group}
use Rattle.tbd_v4_read.proofs.faults.unknown_in_groups.Given as goal

abbrev pub invariant-loop-group : goal.invariant-loop-group
invariant-loop-group l = first_of (unknown_in_group l.targets) (drop l.group-index l.groups) ≡ first_of (unknown_in_group l.targets) l.groups
