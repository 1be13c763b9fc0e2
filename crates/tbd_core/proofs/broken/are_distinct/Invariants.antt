use Rattle.std.proofs.Common.{◌≡◌, length}
use Rattle.tbd_core.specs.Normal.{distinct}
use Rattle.tbd_core.proofs.broken.are_distinct.Given as goal

-- what is left has the answer
abbrev pub invariant-loop-left : goal.invariant-loop-left
invariant-loop-left l = distinct l.left ≡ distinct l.targets

abbrev pub decreases-loop-left : goal.decreases-loop-left
decreases-loop-left l = length l.left
