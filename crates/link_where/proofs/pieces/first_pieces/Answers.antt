use Rattle.std.proofs.Common.{◌-◌, drop, length, refl}
use Rattle.link_where.specs.Pieces.{AreFound}
use Rattle.link_where.proofs.Found.{one_more}
use Rattle.link_where.proofs.pieces.first_pieces.Goals as goal

pub loop-i-preserved : goal.loop-i-preserved
loop-i-preserved c =
    let xs = c.args.pieces.now in
    one_more (λ pieces. AreFound pieces c.note.new.found) xs (length xs) c.loop-i.i _ _ refl c.loop-i-test.true refl
    (c.in_ok-note.ensures (drop (length xs - c.loop-i.i) xs) c.loop-i.invariant)
