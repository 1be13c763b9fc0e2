use Rattle.std.proofs.Common.{◌≡◌, ◌++◌}
use Rattle.std.specs.List.{flat_map}
use Rattle.ifs_bytes.specs.Places.{places}
use Rattle.elf_object.specs.References.{references_at}
use Rattle.elf_object.proofs.reference.references_of.Given as goal

abbrev pub invariant-loop-s : goal.invariant-loop-s
invariant-loop-s l =
    l.references.items ++ flat_map (references_at l.elf.bytes l.elf.header l.parts) (places l.s l.elf.header.shnum)
    ≡ flat_map (references_at l.elf.bytes l.elf.header l.parts) (places 0 l.elf.header.shnum)
