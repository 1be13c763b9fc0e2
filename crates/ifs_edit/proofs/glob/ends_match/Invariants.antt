use Rattle.std.proofs.Common.{◌≡◌, length}
use Rattle.ifs_edit.specs.Glob.{matches, some_rest}
use Rattle.ifs_edit.proofs.glob.ends_match.Given as goal

-- what is left has the answer
abbrev pub invariant-loop-rest : goal.invariant-loop-rest
invariant-loop-rest l = some_rest (matches l.elements) l.name ≡ some_rest (matches l.fn.elements) l.fn.name

abbrev pub decreases-loop-rest : goal.decreases-loop-rest
decreases-loop-rest l = length l.elements
