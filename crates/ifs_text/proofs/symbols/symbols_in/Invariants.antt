use Rattle.std.proofs.Common.{◌≡◌, ◌++◌, drop}
use Rattle.std.specs.List.{filter_map}
use Rattle.ifs_text.specs.Parts.{symbol_in}
use Rattle.ifs_text.proofs.symbols.symbols_in.Given as goal

abbrev pub invariant-loop-item : goal.invariant-loop-item
invariant-loop-item l = l.symbols.items ++ filter_map symbol_in (drop l.item-index l.items) ≡ filter_map symbol_in l.items
