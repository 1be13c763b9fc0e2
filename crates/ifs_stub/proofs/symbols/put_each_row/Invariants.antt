use Rattle.std.proofs.Common.{◌≡◌, ◌+◌, ◌≤◌, false, length, drop, ◌++◌}
use Rattle.std.specs.List.{list_any}
use Rattle.ifs_stub.specs.StubFile.{rows_bytes, rows_from, symbol_name_bytes}
use Rattle.ifs_stub.specs.Stub.{is_too_wide}
use Rattle.ifs_stub.proofs.symbols.put_each_row.Given as goal

abbrev pub invariant-loop-symbol : goal.invariant-loop-symbol
invariant-loop-symbol l =
    let rest = drop l.symbol-index l.symbols in
    record {
      written : l.out.items ++ rows_bytes l.form.order l.form.width (rows_from l.at rest) ≡ l.fn.out.items ++ rows_bytes l.form.order l.form.width (rows_from 1 l.symbols);
      room : l.at + (length rest + symbol_name_bytes rest) ≤ 40000001;
      sizes : list_any (is_too_wide l.form.width) rest ≡ false;
    }
