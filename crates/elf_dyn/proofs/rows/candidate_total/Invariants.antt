use Rattle.std.proofs.Common.{◌≡◌, ◌+◌, ◌<◌, ◌^◌}
use Rattle.std.specs.Prelude.{sum_by}
use Rattle.ifs_bytes.specs.Places.{places}
use Rattle.ifs_bytes.specs.Carried.{carried}
use Rattle.elf_dyn.specs.Rows.{candidate_size}
use Rattle.elf_dyn.proofs.rows.candidate_total.Given as goal

abbrev pub invariant-loop-i : goal.invariant-loop-i
invariant-loop-i l =
    let size = candidate_size l.lengths.names.bytes.now l.rows l.lengths.names.strings in
    record {
      counted : carried (l.total + sum_by size (places l.i l.rows.count)) ≡ carried (sum_by size (places 1 l.rows.count));
      bounded : l.total < 2 ^ 64;
    }
