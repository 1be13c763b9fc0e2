use Rattle.std.proofs.Common.{◌≡◌, ◌++◌, map, drop}
use Rattle.tbd_v4_read.specs.Library.{named}
use Rattle.tbd_v4_read.proofs.library.named_of.Given as goal

abbrev pub invariant-loop-symbol : goal.invariant-loop-symbol
invariant-loop-symbol l = l.names.items ++ map named (drop l.symbol-index l.symbols) ≡ map named l.symbols
