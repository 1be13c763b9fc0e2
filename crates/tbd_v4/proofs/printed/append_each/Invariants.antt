use Rattle.std.proofs.Common.{◌≡◌, ◌++◌, take}
use Rattle.std.specs.List.{flat_map}
use Rattle.tbd_v4.specs.Printed.{printed_library}
use Rattle.tbd_v4.proofs.printed.append_each.Given as goal

abbrev pub invariant-loop-dylib : goal.invariant-loop-dylib
invariant-loop-dylib l = l.out ≡ l.fn.out ++ flat_map printed_library (take l.dylib-index l.dylibs)
