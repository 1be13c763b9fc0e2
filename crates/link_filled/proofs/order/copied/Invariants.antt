use Rattle.std.proofs.Common.{◌≡◌, take}
use Rattle.link_filled.proofs.order.copied.Given as goal

abbrev pub invariant-loop-piece : goal.invariant-loop-piece
invariant-loop-piece l = l.all.items ≡ take l.piece-index l.pieces
