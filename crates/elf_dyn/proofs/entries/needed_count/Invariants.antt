use Rattle.std.proofs.Common.{◌≡◌, ◌==◌, ◌+◌, ◌≤◌, ℕ}
use Rattle.std.specs.Prelude.{count_by}
use Rattle.ifs_bytes.specs.Places.{places}
use Rattle.elf_dyn.specs.Entries.{entry}
use Rattle.elf_dyn.specs.declared.constants.TheConstants.{DT_NEEDED}
use Rattle.elf_dyn.proofs.entries.needed_count.Given as goal

abbrev pub invariant-loop-i : goal.invariant-loop-i
invariant-loop-i l =
    let test = λ (i : ℕ). (entry l.bytes l.entries i).tag == DT_NEEDED in
    record {
      counted : l.total + count_by test (places l.i l.count) ≡ count_by test (places 0 l.count);
      bounded : l.total ≤ l.i;
    }
