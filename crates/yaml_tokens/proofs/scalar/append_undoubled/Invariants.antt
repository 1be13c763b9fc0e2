use Rattle.std.proofs.Common.{◌≡◌, ◌++◌, false, length}
use Rattle.yaml_tokens.specs.Scalars.{undoubled}
use Rattle.yaml_tokens.proofs.scalar.append_undoubled.Given as goal

abbrev pub invariant-loop-rest : goal.invariant-loop-rest
invariant-loop-rest l = l.out ++ undoubled l.second l.rest ≡ l.fn.out ++ undoubled false l.bytes

abbrev pub decreases-loop-rest : goal.decreases-loop-rest
decreases-loop-rest l = length l.rest
