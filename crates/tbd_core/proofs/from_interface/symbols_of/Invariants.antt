use Rattle.std.proofs.Common.{◌≡◌, map, take}
use Rattle.tbd_core.specs.Converted.{symbol_of}
use Rattle.tbd_core.proofs.from_interface.symbols_of.Given as goal

abbrev pub invariant-loop-symbol : goal.invariant-loop-symbol
invariant-loop-symbol l = l.made.items ≡ map symbol_of (take l.symbol-index l.symbols)
