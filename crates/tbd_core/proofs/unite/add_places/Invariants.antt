use Rattle.std.proofs.Common.{◌≡◌, length}
use Rattle.tbd_core.specs.Union.{with_places}
use Rattle.tbd_core.proofs.unite.add_places.Given as goal

-- what is left is put as all were
abbrev pub invariant-loop-left : goal.invariant-loop-left
invariant-loop-left l = with_places l.all.keys l.left ≡ with_places l.fn.all.keys l.places

abbrev pub decreases-loop-left : goal.decreases-loop-left
decreases-loop-left l = length l.left
