use Rattle.std.proofs.Common.{◌≡◌, ◌+◌, ◌≤◌, ◌==◌, cond, length}
use Rattle.yaml_tokens.specs.Scalars.{plain_size}
use Rattle.yaml_tokens.proofs.scalar.plain_size.Given as goal

abbrev pub invariant-loop-rest : goal.invariant-loop-rest
invariant-loop-rest l = record {
  value : plain_size l.flow l.bytes ≡ cond (plain_size l.flow l.rest == 0) l.size (l.seen + plain_size l.flow l.rest);
  seen : l.seen + length l.rest ≡ length l.bytes;
  within : l.size ≤ l.seen;
}

abbrev pub decreases-loop-rest : goal.decreases-loop-rest
decreases-loop-rest l = length l.rest
