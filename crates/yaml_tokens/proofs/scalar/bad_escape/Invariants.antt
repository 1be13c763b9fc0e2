use Rattle.std.proofs.Common.{◌≡◌, ◌+◌, zero, length}
use Rattle.yaml_tokens.specs.Scalars.{bad_escape}
use Rattle.yaml_tokens.proofs.scalar.bad_escape.Given as goal

abbrev pub invariant-loop-rest : goal.invariant-loop-rest
invariant-loop-rest l = record {
  value : bad_escape zero 0 l.bytes ≡ bad_escape zero l.at l.rest;
  seen : l.at + length l.rest ≡ length l.bytes;
}

abbrev pub decreases-loop-rest : goal.decreases-loop-rest
decreases-loop-rest l = length l.rest
