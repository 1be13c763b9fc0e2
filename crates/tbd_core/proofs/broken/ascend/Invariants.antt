use Rattle.std.proofs.Common.{◌≡◌, length}
use Rattle.tbd_core.specs.Normal.{ascend_from}
use Rattle.tbd_core.proofs.broken.ascend.Given as goal

-- what is left has the answer
abbrev pub invariant-loop-left : goal.invariant-loop-left
invariant-loop-left l = ascend_from l.least l.count l.left ≡ ascend_from 0 l.count l.places

abbrev pub decreases-loop-left : goal.decreases-loop-left
decreases-loop-left l = length l.left
