use Rattle.std.proofs.Common.{◌≡◌, ◌+◌, ◌≤◌, ℕ}
use Rattle.std.specs.Prelude.{count_by}
use Rattle.ifs_bytes.specs.Places.{places}
use Rattle.elf_dyn.specs.Rows.{row, is_candidate}
use Rattle.elf_dyn.proofs.rows.candidate_count.Given as goal

abbrev pub invariant-loop-i : goal.invariant-loop-i
invariant-loop-i l =
    let test = λ (i : ℕ). is_candidate (row l.bytes l.rows i) in
    record {
      counted : l.total + count_by test (places l.i l.rows.count) ≡ count_by test (places 1 l.rows.count);
      bounded : l.total ≤ l.i;
      within : l.total ≤ l.rows.count;
    }
