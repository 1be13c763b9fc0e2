use Rattle.std.proofs.Common.{◌≡◌, map, take}
use Rattle.tbd_core.specs.Converted.{forgotten}
use Rattle.tbd_core.proofs.convert.forgotten_each.Given as goal

abbrev pub invariant-loop-dylib : goal.invariant-loop-dylib
invariant-loop-dylib l = l.copies.items ≡ map forgotten (take l.dylib-index l.dylibs)
