use Rattle.std.proofs.Common.{◌≡◌, ℕ}
use Rattle.std.specs.Prelude.{nat_le}
use Rattle.std.specs.List.{find}
use Rattle.ifs_bytes.specs.Places.{places}
use Rattle.elf_object.specs.Parts.{word_in, word_count}
use Rattle.elf_object.proofs.group.stray_member.Given as goal

abbrev pub invariant-loop-k : goal.invariant-loop-k
invariant-loop-k l =
    let test = λ (k : ℕ). nat_le l.elf.header.shnum (word_in l.elf.bytes l.span k) in
    find test (places l.k (word_count l.span)) ≡ find test (places 1 (word_count l.span))
