use Rattle.std.proofs.Common.{◌≡◌, ◌++◌, map, take}
use Rattle.link_filled.specs.Fills.{piece_item}
use Rattle.link_filled.proofs.filling.push_pieces.Given as goal

abbrev pub invariant-loop-piece : goal.invariant-loop-piece
invariant-loop-piece l = l.items.items ≡ l.initial.items.items ++ map piece_item (take l.piece-index l.pieces)
