use Rattle.std.proofs.Common.{◌≡◌, ◌++◌, map, length}
use Rattle.tbd_v4.specs.Lines.{items_from, items}
use Rattle.tbd_v4.proofs.lines.append_target_names.Given as goal

-- what is left goes behind what is done
abbrev pub invariant-loop-left : goal.invariant-loop-left
invariant-loop-left l = l.out ++ items_from l.behind (map (λ target. target.name) l.left) ≡ l.fn.out ++ items (map (λ target. target.name) l.targets)

abbrev pub decreases-loop-left : goal.decreases-loop-left
decreases-loop-left l = length l.left
