use Rattle.std.proofs.Common.{take}
use Rattle.link_pieces.specs.Flags.{rows, AreCleared}
use Rattle.link_pieces.proofs.flags.clear_dropped.Given as goal

abbrev pub invariant-loop-member : goal.invariant-loop-member
invariant-loop-member l = AreCleared (take l.member-index l.dropped) (rows l.initial.all) (rows l.all)
