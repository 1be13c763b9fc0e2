use Rattle.std.proofs.Common.{◌≡◌, ◌++◌, zero, length}
use Rattle.yaml_tokens.specs.Scalars.{unescaped}
use Rattle.yaml_tokens.proofs.scalar.append_unescaped.Given as goal

abbrev pub invariant-loop-rest : goal.invariant-loop-rest
invariant-loop-rest l = l.out ++ unescaped zero l.rest ≡ l.fn.out ++ unescaped zero l.bytes

abbrev pub decreases-loop-rest : goal.decreases-loop-rest
decreases-loop-rest l = length l.rest
