use Rattle.std.proofs.Common.{◌≡◌, ℕ}
use Rattle.std.specs.Prelude.{◌&&◌}
use Rattle.std.specs.List.{find}
use Rattle.ifs_bytes.specs.Places.{places}
use Rattle.elf_file.specs.Header.{section_in}
use Rattle.elf_object.specs.Sections.{is_alloc, is_compressed}
use Rattle.elf_object.proofs.section.compressed_section.Given as goal

abbrev pub invariant-loop-i : goal.invariant-loop-i
invariant-loop-i l =
    let test = λ (i : ℕ). is_alloc (section_in l.elf.bytes l.elf.header i).flags && is_compressed (section_in l.elf.bytes l.elf.header i).flags in
    find test (places l.i l.elf.header.shnum) ≡ find test (places 0 l.elf.header.shnum)
