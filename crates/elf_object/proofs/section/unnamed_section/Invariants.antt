use Rattle.std.proofs.Common.{◌≡◌, ℕ}
use Rattle.std.specs.Prelude.{is_none}
use Rattle.std.specs.List.{find}
use Rattle.ifs_bytes.specs.Places.{places}
use Rattle.elf_object.specs.Sections.{section_name}
use Rattle.elf_object.proofs.section.unnamed_section.Given as goal

abbrev pub invariant-loop-i : goal.invariant-loop-i
invariant-loop-i l =
    let test = λ (i : ℕ). is_none (section_name l.elf.bytes l.elf.header l.parts i) in
    find test (places l.i l.elf.header.shnum) ≡ find test (places 0 l.elf.header.shnum)
