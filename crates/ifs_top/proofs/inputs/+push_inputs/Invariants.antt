use Rattle.std.proofs.Common.{length}
use Rattle.ifs_top.proofs.inputs.+push_inputs.Given as goal

abbrev pub decreases-push_inputs : goal.decreases-push_inputs
decreases-push_inputs g l = length l.paths.now
