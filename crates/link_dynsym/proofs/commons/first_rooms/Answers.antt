use Rattle.std.proofs.Common.{◌-◌, drop, length, refl}
use Rattle.link_where.proofs.Found.{one_more}
use Rattle.link_dynsym.specs.Rows.{AreFound}
use Rattle.link_dynsym.proofs.commons.first_rooms.Goals as goal

pub loop-i-preserved : goal.loop-i-preserved
loop-i-preserved c =
    let xs = c.args.rooms.now in
    one_more (λ rooms. AreFound rooms c.note.new.found) xs (length xs) c.loop-i.i _ _ refl c.loop-i-test.true refl
    (c.in_ok-note.ensures (drop (length xs - c.loop-i.i) xs) c.loop-i.invariant)
