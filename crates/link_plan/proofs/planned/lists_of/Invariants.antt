use Rattle.std.proofs.Common.{◌≡◌, drop}
use Rattle.link_plan.specs.Lists.{lists_of, needs_of}
use Rattle.link_plan.proofs.Plans.{grown}
use Rattle.link_plan.proofs.planned.lists_of.Given as goal

abbrev pub invariant-loop-item : goal.invariant-loop-item
invariant-loop-item l = grown l.lists (drop l.item-index l.taken) ≡ lists_of (needs_of l.taken)
