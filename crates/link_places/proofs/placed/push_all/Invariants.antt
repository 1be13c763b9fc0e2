use Rattle.std.proofs.Common.{◌≡◌, ◌++◌, drop}
use Rattle.link_places.specs.Placed.{placed_from}
use Rattle.link_places.proofs.placed.push_all.Given as goal

abbrev pub invariant-loop-section : goal.invariant-loop-section
invariant-loop-section l =
    l.placed.items ++ placed_from l.end (drop l.section-index l.sections)
    ≡ l.fn.placed.items ++ placed_from l.fn.at l.sections
