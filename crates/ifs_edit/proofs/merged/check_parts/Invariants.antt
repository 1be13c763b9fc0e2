use Rattle.std.proofs.Common.{◌≡◌, ◌+◌, length}
use Rattle.ifs_edit.specs.Merged.{parts_agree}
use Rattle.ifs_edit.proofs.merged.check_parts.Given as goal

-- what is left has the answer
abbrev pub invariant-loop-rest : goal.invariant-loop-rest
invariant-loop-rest l = record {
  value : parts_agree l.first l.at l.rest ≡ parts_agree l.first 0 l.list;
  seen : l.at + length l.rest ≡ length l.list;
}

abbrev pub decreases-loop-rest : goal.decreases-loop-rest
decreases-loop-rest l = length l.rest
