use Rattle.std.proofs.Common.{◌≡◌, ◌++◌, length}
use Rattle.tbd_v4.specs.Lines.{items_from, items, names_in}
use Rattle.tbd_v4.proofs.lines.append_names.Given as goal

-- what is left goes behind what is done
abbrev pub invariant-loop-left : goal.invariant-loop-left
invariant-loop-left l = l.out ++ items_from l.behind (names_in l.list l.left) ≡ l.fn.out ++ items (names_in l.list l.group)

abbrev pub decreases-loop-left : goal.decreases-loop-left
decreases-loop-left l = length l.left
