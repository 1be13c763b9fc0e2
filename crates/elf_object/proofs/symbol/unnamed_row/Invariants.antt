use Rattle.std.proofs.Common.{◌≡◌, ℕ}
use Rattle.std.specs.Prelude.{is_none}
use Rattle.std.specs.List.{find}
use Rattle.ifs_bytes.specs.Places.{places}
use Rattle.elf_object.specs.Symbols.{row_count, row_name}
use Rattle.elf_object.proofs.symbol.unnamed_row.Given as goal

abbrev pub invariant-loop-i : goal.invariant-loop-i
invariant-loop-i l =
    let test = λ (i : ℕ). is_none (row_name l.elf.bytes l.parts i) in
    find test (places l.i (row_count l.parts)) ≡ find test (places 0 (row_count l.parts))
