use Rattle.std.proofs.Common.{◌≡◌, drop}
use Rattle.yaml_maps.specs.Maps.{first_of}
use Rattle.tbd_v4_read.specs.Faults.{value_fault}
use Rattle.tbd_v4_read.proofs.faults.value_faults.Given as goal

abbrev pub invariant-loop-entry : goal.invariant-loop-entry
invariant-loop-entry l = first_of value_fault (drop l.entry-index l.entries) ≡ first_of value_fault l.entries
