use Rattle.std.proofs.Common.{◌≡◌, take}
use Rattle.link_where.specs.Ends.{met}
use Rattle.link_where.proofs.ends.meet.Given as goal

abbrev pub invariant-loop-section : goal.invariant-loop-section
invariant-loop-section l = l.met ≡ met (take l.section-index l.sections)
