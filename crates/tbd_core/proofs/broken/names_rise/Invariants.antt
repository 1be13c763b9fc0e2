use Rattle.std.proofs.Common.{◌≡◌, map, length}
use Rattle.tbd_core.specs.Normal.{rise}
use Rattle.tbd_core.proofs.broken.names_rise.Given as goal

-- what is left has the answer
abbrev pub invariant-loop-left : goal.invariant-loop-left
invariant-loop-left l = rise (map (λ x. x.name) l.left) ≡ rise (map (λ x. x.name) l.names)

abbrev pub decreases-loop-left : goal.decreases-loop-left
decreases-loop-left l = length l.left
