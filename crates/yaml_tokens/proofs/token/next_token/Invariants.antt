use Rattle.std.proofs.Common.{◌≡◌}
use Rattle.yaml_tokens.specs.Places.{work}
use Rattle.yaml_tokens.specs.Parts.{tokens_at}
use Rattle.yaml_tokens.proofs.token.next_token.Given as goal

abbrev pub invariant-loop-piece : goal.invariant-loop-piece
invariant-loop-piece l = tokens_at l.fn.cutter ≡ tokens_at l.cutter

abbrev pub decreases-loop-piece : goal.decreases-loop-piece
decreases-loop-piece l = work l.cutter
