use Rattle.link_where.proofs.Found.{noted}
use Rattle.link_where.proofs.pieces.note.Goals as goal

pub returns : goal.returns
returns c pieces are =
    noted c.args.found.now c.insert.new.self c.args.piece.now pieces c.in_ok-insert.ensures.updates are
