use Rattle.std.proofs.Common.{◌≡◌, map, take}
use Rattle.tbd_core.specs.Converted.{forgotten_symbol}
use Rattle.tbd_core.proofs.convert.forgotten_symbols.Given as goal

abbrev pub invariant-loop-symbol : goal.invariant-loop-symbol
invariant-loop-symbol l = l.copies.items ≡ map forgotten_symbol (take l.symbol-index l.symbols)
