use Rattle.std.proofs.Common.{length}
use Rattle.yaml_tokens.proofs.tests.show.Given as goal

abbrev pub decreases-loop-token : goal.decreases-loop-token
decreases-loop-token l = length l.rest
