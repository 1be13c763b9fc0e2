use Rattle.link_uses.proofs.Pairs.{AreDroppedFrom}
use Rattle.link_uses.proofs.kept.dropped_set.Given as goal

abbrev pub invariant-loop-member : goal.invariant-loop-member
invariant-loop-member l = AreDroppedFrom l.dropped l.set.keys l.member-index
