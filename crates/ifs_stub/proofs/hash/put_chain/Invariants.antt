use Rattle.std.proofs.Common.{◌≡◌, ℕ, ◌++◌}
use Rattle.std.specs.List.{flat_map}
use Rattle.ifs_bytes.specs.Places.{places}
use Rattle.ifs_stub.specs.StubFile.{next_row, word_bytes}
use Rattle.ifs_stub.proofs.hash.put_chain.Given as goal

abbrev pub invariant-loop-row : goal.invariant-loop-row
invariant-loop-row l =
    let chain = λ (row : ℕ). word_bytes l.order (next_row l.count row) in
    l.out.items ++ flat_map chain (places l.row l.count) ≡ l.fn.out.items ++ flat_map chain (places 0 l.count)
