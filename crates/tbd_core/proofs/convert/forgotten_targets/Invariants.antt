use Rattle.std.proofs.Common.{◌≡◌, map, take}
use Rattle.tbd_core.specs.Converted.{forgotten_target}
use Rattle.tbd_core.proofs.convert.forgotten_targets.Given as goal

abbrev pub invariant-loop-target : goal.invariant-loop-target
invariant-loop-target l = l.copies.items ≡ map forgotten_target (take l.target-index l.targets)
