use Rattle.std.proofs.Common.{◌≡◌, ℕ}
use Rattle.std.specs.Prelude.{◌&&◌, is_none}
use Rattle.std.specs.List.{find}
use Rattle.ifs_bytes.specs.Places.{places}
use Rattle.elf_dyn.specs.Rows.{row, row_name, is_candidate}
use Rattle.elf_dyn.proofs.rows.bad_row.Given as goal

abbrev pub invariant-loop-i : goal.invariant-loop-i
invariant-loop-i l =
    let test = λ (i : ℕ). is_candidate (row l.names.bytes.now l.rows i) && is_none (row_name l.names.bytes.now l.rows l.names.strings i) in
    find test (places l.i l.rows.count) ≡ find test (places 1 l.rows.count)
