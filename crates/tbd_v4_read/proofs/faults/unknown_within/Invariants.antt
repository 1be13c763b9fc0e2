use Rattle.std.proofs.Common.{◌≡◌, drop}
use Rattle.yaml_maps.specs.Maps.{first_of}
use Rattle.tbd_v4_read.specs.Faults.{unknown_at}
use Rattle.tbd_v4_read.proofs.faults.unknown_within.Given as goal

abbrev pub invariant-loop-entry : goal.invariant-loop-entry
invariant-loop-entry l = first_of (unknown_at l.targets) (drop l.entry-index l.entries) ≡ first_of (unknown_at l.targets) l.entries
