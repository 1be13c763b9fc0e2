use Rattle.std.proofs.Common.{ap, length, arith, ◌≡◌}
use Rattle.link_uses.proofs.Tables.{whole_table}
use Rattle.link_uses.proofs.table.targets_of.Goals as goal

pub returns : goal.returns
returns c =
    let all : length c.symbols-count.result.now ≡ length c.args.own.now.symbols =
    ap length c.symbols-count.ensures in
    whole_table c.args.given.now c.args.object c.args.own.now c.loop-row.table.items c.loop-row.row
    c.loop-row.invariant.many (omega (arith, all)) c.loop-row.invariant.rows
