use Rattle.std.proofs.Common.{◌≡◌, ◌+◌, false, length}
use Rattle.std.specs.Prelude.{option_map}
use Rattle.yaml_tokens.specs.Scalars.{single_size}
use Rattle.yaml_tokens.proofs.scalar.single_size.Given as goal

abbrev pub invariant-loop-rest : goal.invariant-loop-rest
invariant-loop-rest l = record {
  value : single_size false l.bytes ≡ option_map (λ n. l.seen + n) (single_size l.taken l.rest);
  seen : l.seen + length l.rest ≡ length l.bytes;
}

abbrev pub decreases-loop-rest : goal.decreases-loop-rest
decreases-loop-rest l = length l.rest
