use Rattle.std.proofs.Common.{◌≡◌, ◌+◌, length}
use Rattle.yaml_tokens.specs.Bytes.{blanks}
use Rattle.yaml_tokens.proofs.byte.blanks.Given as goal

abbrev pub invariant-loop-rest : goal.invariant-loop-rest
invariant-loop-rest l = record {
  value : blanks l.bytes ≡ l.size + blanks l.rest;
  seen : l.size + length l.rest ≡ length l.bytes;
}

abbrev pub decreases-loop-rest : goal.decreases-loop-rest
decreases-loop-rest l = length l.rest
