use Rattle.std.proofs.Common.{◌≡◌, ◌++◌, map, length}
use Rattle.tbd_v4.specs.Lines.{items_from, items, name_at}
use Rattle.tbd_v4.proofs.lines.append_places.Given as goal

-- what is left goes behind what is done
abbrev pub invariant-loop-left : goal.invariant-loop-left
invariant-loop-left l = l.out ++ items_from l.behind (map (name_at l.targets) l.left) ≡ l.fn.out ++ items (map (name_at l.targets) l.places)

abbrev pub decreases-loop-left : goal.decreases-loop-left
decreases-loop-left l = length l.left
