use Rattle.std.proofs.Common.{◌≡◌, ℕ}
use Rattle.std.specs.List.{find}
use Rattle.ifs_bytes.specs.Places.{places}
use Rattle.elf_file.specs.Header.{section_in}
use Rattle.elf_object.specs.Parts.{is_outside}
use Rattle.elf_object.proofs.parts.outside.Given as goal

abbrev pub invariant-loop-i : goal.invariant-loop-i
invariant-loop-i l =
    let test = λ (i : ℕ). is_outside l.elf.bytes (section_in l.elf.bytes l.elf.header i) in
    find test (places l.i l.elf.header.shnum) ≡ find test (places 0 l.elf.header.shnum)
