use Rattle.std.proofs.Common.{◌≡◌, ◌++◌, drop}
use Rattle.link_outputs.specs.Pieces.{pieces_from}
use Rattle.link_outputs.proofs.piece.flagged_pieces.Given as goal

abbrev pub invariant-loop-i : goal.invariant-loop-i
invariant-loop-i l = l.pieces.items ++ pieces_from l.i (drop l.i l.flags) (drop l.i l.objects) ≡ pieces_from 0 l.flags l.objects
