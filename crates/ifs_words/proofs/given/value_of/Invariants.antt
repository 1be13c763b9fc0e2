use Rattle.std.proofs.Common.{◌≡◌, length}
use Rattle.ifs_words.specs.Reading.{value_of}
use Rattle.ifs_words.proofs.given.value_of.Given as goal

-- what is left has the answer
abbrev pub invariant-loop-rest : goal.invariant-loop-rest
invariant-loop-rest l = value_of l.setting l.rest ≡ value_of l.setting l.given

abbrev pub decreases-loop-rest : goal.decreases-loop-rest
decreases-loop-rest l = length l.rest
