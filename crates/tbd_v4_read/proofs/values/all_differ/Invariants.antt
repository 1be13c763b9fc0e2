use Rattle.std.proofs.Common.{◌≡◌, length}
use Rattle.tbd_v4_read.specs.Values.{all_differ}
use Rattle.tbd_v4_read.proofs.values.all_differ.Given as goal

-- what is left has the answer
abbrev pub invariant-loop-left : goal.invariant-loop-left
invariant-loop-left l = all_differ l.left ≡ all_differ l.items

abbrev pub decreases-loop-left : goal.decreases-loop-left
decreases-loop-left l = length l.left
