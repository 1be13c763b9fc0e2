use Rattle.std.proofs.Common.{◌≡◌, ◌++◌, drop}
use Rattle.tbd_v4.specs.Listed.{listed_symbols}
use Rattle.tbd_v4.proofs.listed.listed_symbols.Given as goal

-- what is left goes behind what is done
abbrev pub invariant-loop-symbol : goal.invariant-loop-symbol
invariant-loop-symbol l =
    l.entries.items ++ listed_symbols l.section (drop l.symbol-index l.symbols) ≡ listed_symbols l.section l.symbols
