use Rattle.std.proofs.Common.{◌≡◌, map, take}
use Rattle.tbd_core.specs.Converted.{placed_symbol}
use Rattle.tbd_core.proofs.convert.placed_symbols.Given as goal

abbrev pub invariant-loop-symbol : goal.invariant-loop-symbol
invariant-loop-symbol l = l.copies.items ≡ map placed_symbol (take l.symbol-index l.symbols)
