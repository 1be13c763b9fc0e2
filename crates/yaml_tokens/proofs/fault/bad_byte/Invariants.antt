use Rattle.std.proofs.Common.{◌≡◌, ◌+◌, length}
use Rattle.yaml_tokens.specs.Faults.{bad_byte}
use Rattle.yaml_tokens.proofs.fault.bad_byte.Given as goal

abbrev pub invariant-loop-rest : goal.invariant-loop-rest
invariant-loop-rest l = record {
  value : bad_byte 0 l.text ≡ bad_byte l.at l.rest;
  seen : l.at + length l.rest ≡ length l.text;
}

abbrev pub decreases-loop-rest : goal.decreases-loop-rest
decreases-loop-rest l = length l.rest
