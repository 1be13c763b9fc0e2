use Rattle.std.proofs.Common.{◌≡◌, true, take, drop}
use Rattle.std.specs.List.{find, list_all}
use Rattle.ifs_stub.specs.Laws.{size_fits}
use Rattle.ifs_stub.specs.Stub.{is_too_wide}
use Rattle.ifs_stub.proofs.limits.too_wide.Given as goal

abbrev pub invariant-loop-symbol : goal.invariant-loop-symbol
invariant-loop-symbol l = record {
  left : find (is_too_wide l.width) (drop l.symbol-index l.symbols) ≡ find (is_too_wide l.width) l.symbols;
  fit : list_all (size_fits l.width) (take l.symbol-index l.symbols) ≡ true;
}
