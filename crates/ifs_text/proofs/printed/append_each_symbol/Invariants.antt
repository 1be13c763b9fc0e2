use Rattle.std.proofs.Common.{◌≡◌, ◌++◌, take, drop}
use Rattle.std.specs.List.{flat_map, list_all}
use Rattle.ifs_text.specs.Printed.{symbol_line}
use Rattle.ifs_text.specs.DocumentBack.{has_small_size}
use Rattle.ifs_text.proofs.printed.append_each_symbol.Given as goal

abbrev pub invariant-loop-symbol : goal.invariant-loop-symbol
invariant-loop-symbol l = record {
  text : l.out ≡ l.fn.out ++ flat_map symbol_line (take l.symbol-index l.symbols);
  sizes : list_all has_small_size (drop l.symbol-index l.symbols) ≡ list_all has_small_size l.symbols;
}
