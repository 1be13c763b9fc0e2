use Rattle.std.proofs.Common.{◌≡◌, ℕ}
use Rattle.std.specs.List.{find}
use Rattle.ifs_bytes.specs.Places.{places}
use Rattle.elf_file.specs.Header.{section_in}
use Rattle.elf_object.specs.Groups.{is_bad_group}
use Rattle.elf_object.proofs.group.bad_group.Given as goal

abbrev pub invariant-loop-i : goal.invariant-loop-i
invariant-loop-i l =
    let test = λ (i : ℕ). is_bad_group l.elf.bytes l.elf.header l.parts (section_in l.elf.bytes l.elf.header i) in
    find test (places l.i l.elf.header.shnum) ≡ find test (places 0 l.elf.header.shnum)
