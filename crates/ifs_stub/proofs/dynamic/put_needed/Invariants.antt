use Rattle.std.proofs.Common.{◌≡◌, ◌+◌, ◌≤◌, length, drop, ◌++◌}
use Rattle.ifs_stub.specs.StubFile.{entries_bytes, needed_entries, needed_name_bytes}
use Rattle.ifs_stub.proofs.dynamic.put_needed.Given as goal

abbrev pub invariant-loop-name : goal.invariant-loop-name
invariant-loop-name l =
    let rest = drop l.name-index l.names in
    record {
      written : l.out.items ++ entries_bytes l.form.order l.form.width (needed_entries l.at rest) ≡ l.fn.out.items ++ entries_bytes l.form.order l.form.width (needed_entries l.start l.names);
      room : l.at + (length rest + needed_name_bytes rest) ≤ 40000000;
    }
