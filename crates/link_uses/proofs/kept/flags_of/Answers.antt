use Rattle.std.proofs.Common.{ap, length, arith, ◌≡◌}
use Rattle.link_uses.proofs.Pairs.{whole_flags}
use Rattle.link_uses.proofs.kept.flags_of.Goals as goal

pub returns : goal.returns
returns c =
    let all : length c.sections-count.result.now ≡ length c.args.own.now.sections =
    ap length c.sections-count.ensures in
    whole_flags c.args.dropped.now c.args.object c.args.own.now c.loop-section.flags.items
    c.loop-section.section c.loop-section.invariant.many (omega (arith, all))
    c.loop-section.invariant.sections
