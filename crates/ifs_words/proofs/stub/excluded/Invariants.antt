use Rattle.std.proofs.Common.{◌≡◌, ◌++◌, length}
use Rattle.ifs_words.specs.Stub.{excluded}
use Rattle.ifs_words.proofs.stub.excluded.Given as goal

-- what was read, before what is left
abbrev pub invariant-loop-rest : goal.invariant-loop-rest
invariant-loop-rest l = l.patterns.items ++ excluded l.rest ≡ excluded l.given

abbrev pub decreases-loop-rest : goal.decreases-loop-rest
decreases-loop-rest l = length l.rest
