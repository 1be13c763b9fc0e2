use Rattle.std.proofs.Common.{◌≡◌, ◌==◌}
use Rattle.std.specs.List.{find}
use Rattle.ifs_bytes.specs.Places.{places}
use Rattle.elf_dyn.specs.Entries.{entry}
use Rattle.elf_dyn.specs.declared.constants.TheConstants.{DT_NULL}
use Rattle.elf_dyn.proofs.entries.entry_count.Given as goal

abbrev pub invariant-loop-i : goal.invariant-loop-i
invariant-loop-i l =
    find (λ i. (entry l.bytes l.entries i).tag == DT_NULL) (places l.i l.entries.room)
    ≡ find (λ i. (entry l.bytes l.entries i).tag == DT_NULL) (places 0 l.entries.room)
