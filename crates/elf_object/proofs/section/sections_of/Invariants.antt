use Rattle.std.proofs.Common.{◌≡◌, ◌++◌, map}
use Rattle.ifs_bytes.specs.Places.{places}
use Rattle.elf_object.specs.Sections.{section_at}
use Rattle.elf_object.proofs.section.sections_of.Given as goal

abbrev pub invariant-loop-i : goal.invariant-loop-i
invariant-loop-i l =
    l.sections.items ++ map (section_at l.elf.bytes l.elf.header l.parts) (places l.i l.elf.header.shnum)
    ≡ map (section_at l.elf.bytes l.elf.header l.parts) (places 0 l.elf.header.shnum)
