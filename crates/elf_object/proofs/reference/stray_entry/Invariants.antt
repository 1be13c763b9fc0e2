use Rattle.std.proofs.Common.{◌≡◌, ℕ}
use Rattle.std.specs.Prelude.{nat_le}
use Rattle.std.specs.List.{find}
use Rattle.ifs_bytes.specs.Places.{places}
use Rattle.elf_object.specs.References.{entry_of, entry_count}
use Rattle.elf_object.specs.Symbols.{row_count}
use Rattle.elf_object.proofs.reference.stray_entry.Given as goal

abbrev pub invariant-loop-k : goal.invariant-loop-k
invariant-loop-k l =
    let test = λ (k : ℕ). nat_le (row_count l.parts) (entry_of l.elf.bytes l.table k).symbol in
    find test (places l.k (entry_count l.table)) ≡ find test (places 0 (entry_count l.table))
