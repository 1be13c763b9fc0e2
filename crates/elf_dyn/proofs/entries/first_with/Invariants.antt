use Rattle.std.proofs.Common.{◌≡◌, ◌==◌}
use Rattle.std.specs.List.{find}
use Rattle.ifs_bytes.specs.Places.{places}
use Rattle.elf_dyn.specs.Entries.{entry}
use Rattle.elf_dyn.proofs.entries.first_with.Given as goal

abbrev pub invariant-loop-i : goal.invariant-loop-i
invariant-loop-i l =
    find (λ i. (entry l.bytes l.entries i).tag == l.tag) (places l.i l.count)
    ≡ find (λ i. (entry l.bytes l.entries i).tag == l.tag) (places 0 l.count)
