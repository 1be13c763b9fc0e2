use Rattle.std.proofs.Common.{◌≡◌, ◌+◌, length}
use Rattle.ifs_edit.specs.Runs.{run_len}
use Rattle.ifs_edit.proofs.glob.run_len.Given as goal

abbrev pub invariant-loop-rest : goal.invariant-loop-rest
invariant-loop-rest l = record {
  value : l.len + run_len l.rest ≡ run_len l.elements;
  seen : l.len + length l.rest ≡ length l.elements;
}

abbrev pub decreases-loop-rest : goal.decreases-loop-rest
decreases-loop-rest l = length l.rest
