use Rattle.std.proofs.Common.{◌≡◌, ◌++◌}
use Rattle.std.specs.List.{filter_map}
use Rattle.ifs_bytes.specs.Places.{places}
use Rattle.elf_object.specs.Groups.{group_at}
use Rattle.elf_object.proofs.group.groups_of.Given as goal

abbrev pub invariant-loop-i : goal.invariant-loop-i
invariant-loop-i l =
    l.groups.items ++ filter_map (group_at l.elf.bytes l.elf.header l.parts) (places l.i l.elf.header.shnum)
    ≡ filter_map (group_at l.elf.bytes l.elf.header l.parts) (places 0 l.elf.header.shnum)
