use Rattle.std.proofs.Common.{◌≡◌, ◌+◌, length}
use Rattle.yaml_tokens.specs.Lines.{line_size}
use Rattle.yaml_tokens.proofs.line.line_size.Given as goal

abbrev pub invariant-loop-rest : goal.invariant-loop-rest
invariant-loop-rest l = record {
  value : line_size l.text ≡ l.size + line_size l.rest;
  seen : l.size + length l.rest ≡ length l.text;
}

abbrev pub decreases-loop-rest : goal.decreases-loop-rest
decreases-loop-rest l = length l.rest
