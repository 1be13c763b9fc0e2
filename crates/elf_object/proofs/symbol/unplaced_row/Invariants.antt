use Rattle.std.proofs.Common.{◌≡◌, ℕ}
use Rattle.std.specs.Prelude.{is_none}
use Rattle.std.specs.List.{find}
use Rattle.ifs_bytes.specs.Places.{places}
use Rattle.elf_object.specs.Symbols.{row_count, row_place}
use Rattle.elf_object.proofs.symbol.unplaced_row.Given as goal

abbrev pub invariant-loop-i : goal.invariant-loop-i
invariant-loop-i l =
    let test = λ (i : ℕ). is_none (row_place l.elf.bytes l.elf.header l.parts i) in
    find test (places l.i (row_count l.parts)) ≡ find test (places 0 (row_count l.parts))
