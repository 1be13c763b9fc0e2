use Rattle.std.proofs.Common.{◌≡◌, ◌≤◌, length}
use Rattle.yaml_tokens.specs.Lines.{behind_line}
use Rattle.yaml_tokens.proofs.line.behind_line.Given as goal

abbrev pub invariant-loop-rest : goal.invariant-loop-rest
invariant-loop-rest l = record {
  value : behind_line l.text ≡ behind_line l.rest;
  within : length l.rest ≤ length l.text;
}

abbrev pub decreases-loop-rest : goal.decreases-loop-rest
decreases-loop-rest l = length l.rest
