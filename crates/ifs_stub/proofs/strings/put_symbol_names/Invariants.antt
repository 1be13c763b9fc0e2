use Rattle.std.proofs.Common.{◌≡◌, ◌++◌, take}
use Rattle.std.specs.List.{flat_map}
use Rattle.ifs_stub.specs.StubFile.{terminated}
use Rattle.ifs_stub.proofs.strings.put_symbol_names.Given as goal

abbrev pub invariant-loop-symbol : goal.invariant-loop-symbol
invariant-loop-symbol l = l.out.items ≡ l.fn.out.items ++ flat_map (λ symbol. terminated symbol.name) (take l.symbol-index l.symbols)
