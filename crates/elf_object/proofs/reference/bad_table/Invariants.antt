use Rattle.std.proofs.Common.{◌≡◌}
use Rattle.std.specs.List.{find}
use Rattle.ifs_bytes.specs.Places.{places}
use Rattle.elf_object.specs.References.{is_bad_table}
use Rattle.elf_object.proofs.reference.bad_table.Given as goal

abbrev pub invariant-loop-i : goal.invariant-loop-i
invariant-loop-i l =
    find (is_bad_table l.elf.bytes l.elf.header l.parts) (places l.i l.elf.header.shnum)
    ≡ find (is_bad_table l.elf.bytes l.elf.header l.parts) (places 0 l.elf.header.shnum)
