use Rattle.std.proofs.Common.{◌≡◌, ◌++◌, length}
use Rattle.ifs_words.specs.Together.{values_of}
use Rattle.ifs_words.proofs.together.values_of.Given as goal

-- what was read, before what is left
abbrev pub invariant-loop-rest : goal.invariant-loop-rest
invariant-loop-rest l = l.values.items ++ values_of l.setting l.rest ≡ values_of l.setting l.given

abbrev pub decreases-loop-rest : goal.decreases-loop-rest
decreases-loop-rest l = length l.rest
