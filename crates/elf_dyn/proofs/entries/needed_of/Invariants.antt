use Rattle.std.proofs.Common.{◌≡◌, ◌++◌}
use Rattle.std.specs.List.{filter_map}
use Rattle.ifs_bytes.specs.Places.{places}
use Rattle.elf_dyn.specs.Entries.{needed_at}
use Rattle.elf_dyn.proofs.entries.needed_of.Given as goal

abbrev pub invariant-loop-i : goal.invariant-loop-i
invariant-loop-i l =
    l.names.items ++ filter_map (needed_at l.bytes l.entries l.strings) (places l.i l.count)
    ≡ filter_map (needed_at l.bytes l.entries l.strings) (places 0 l.count)
