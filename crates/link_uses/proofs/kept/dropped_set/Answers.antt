use Rattle.link_uses.proofs.Pairs.{dropped_more}
use Rattle.link_uses.proofs.kept.dropped_set.Goals as goal

pub loop-member-preserved : goal.loop-member-preserved
loop-member-preserved c =
    dropped_more c.args.dropped.now c.loop-member.set.keys c.insert.new.self.keys c.loop-member.member-index
    (record { object = 0; section = 0 }) c.loop-member-test.true
    c.in_ok-insert.ensures.keys c.loop-member.invariant
