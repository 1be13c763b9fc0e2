use Rattle.std.proofs.Common.{◌-◌, drop, length}
use Rattle.link_where.specs.Pieces.{AreFound}
use Rattle.link_where.proofs.pieces.first_pieces.Given as goal

abbrev pub invariant-loop-i : goal.invariant-loop-i
invariant-loop-i l = AreFound (drop (length l.pieces - l.i) l.pieces) l.found
