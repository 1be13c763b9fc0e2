use Rattle.std.proofs.Common.{◌≡◌, ◌+◌, ◌<◌, ◌^◌, drop}
use Rattle.ifs_bytes.specs.Carried.{carried}
use Rattle.ifs_stub.specs.StubFile.{symbol_name_bytes}
use Rattle.ifs_stub.proofs.limits.symbol_name_bytes.Given as goal

abbrev pub invariant-loop-symbol : goal.invariant-loop-symbol
invariant-loop-symbol l = record {
  counted : carried (l.total + symbol_name_bytes (drop l.symbol-index l.symbols)) ≡ carried (symbol_name_bytes l.symbols);
  bounded : l.total < 2 ^ 64;
}
