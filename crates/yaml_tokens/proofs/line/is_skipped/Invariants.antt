use Rattle.std.proofs.Common.{◌≡◌, ◌≤◌, length}
use Rattle.yaml_tokens.specs.Lines.{skipped}
use Rattle.yaml_tokens.proofs.line.is_skipped.Given as goal

abbrev pub invariant-loop-rest : goal.invariant-loop-rest
invariant-loop-rest l = record {
  value : skipped l.line ≡ skipped l.rest;
  within : length l.rest ≤ length l.line;
}

abbrev pub decreases-loop-rest : goal.decreases-loop-rest
decreases-loop-rest l = length l.rest
