use Rattle.std.proofs.Common.{◌≡◌, length}
use Rattle.ifs_edit.specs.Runs.{behind_run}
use Rattle.ifs_edit.proofs.glob.behind_run.Given as goal

-- what is left has the answer
abbrev pub invariant-loop-rest : goal.invariant-loop-rest
invariant-loop-rest l = behind_run l.run l.rest ≡ behind_run l.run l.name

abbrev pub decreases-loop-rest : goal.decreases-loop-rest
decreases-loop-rest l = length l.rest
