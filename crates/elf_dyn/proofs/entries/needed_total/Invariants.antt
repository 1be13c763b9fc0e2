use Rattle.std.proofs.Common.{◌≡◌, ℕ, ◌+◌, ◌<◌, ◌^◌}
use Rattle.std.specs.Prelude.{sum_by}
use Rattle.ifs_bytes.specs.Places.{places}
use Rattle.elf_dyn.specs.Entries.{needed_at}
use Rattle.ifs_bytes.specs.Carried.{carried}
use Rattle.elf_dyn.specs.Strings.{bytes_of}
use Rattle.elf_dyn.proofs.entries.needed_total.Given as goal

abbrev pub invariant-loop-i : goal.invariant-loop-i
invariant-loop-i l =
    let size = λ (i : ℕ). bytes_of (needed_at l.lengths.names.bytes.now l.entries l.lengths.names.strings i) in
    record {
      counted : carried (l.total + sum_by size (places l.i l.count)) ≡ carried (sum_by size (places 0 l.count));
      bounded : l.total < 2 ^ 64;
    }
