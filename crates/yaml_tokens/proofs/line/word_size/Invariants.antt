use Rattle.std.proofs.Common.{◌≡◌, ◌+◌, length}
use Rattle.yaml_tokens.specs.Lines.{word_size}
use Rattle.yaml_tokens.proofs.line.word_size.Given as goal

abbrev pub invariant-loop-rest : goal.invariant-loop-rest
invariant-loop-rest l = record {
  value : word_size l.bytes ≡ l.size + word_size l.rest;
  seen : l.size + length l.rest ≡ length l.bytes;
}

abbrev pub decreases-loop-rest : goal.decreases-loop-rest
decreases-loop-rest l = length l.rest
