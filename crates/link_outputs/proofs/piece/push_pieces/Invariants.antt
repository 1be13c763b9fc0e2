use Rattle.std.proofs.Common.{◌≡◌, ◌++◌, drop}
use Rattle.std.specs.List.{enumerate_from, filter_map}
use Rattle.link_outputs.specs.Pieces.{has_flag, piece_of, pieces_of_object}
use Rattle.link_outputs.proofs.piece.push_pieces.Given as goal

abbrev pub invariant-loop-section : goal.invariant-loop-section
invariant-loop-section l =
    l.pieces.items ++ filter_map (piece_of (has_flag l.flags) l.object) (enumerate_from l.section (drop l.section l.sections))
    ≡ l.initial.pieces.items ++ pieces_of_object l.flags l.object l.sections
