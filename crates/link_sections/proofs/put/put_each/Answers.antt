use Rattle.std.proofs.Common.{◌++◌, arith}
use Rattle.link_placed.specs.Made.{link_of}
use Rattle.link_sections.proofs.Turns.{ended, rest, turn}
use Rattle.link_sections.specs.Rows.{row_in}
use Rattle.link_sections.proofs.put.put_each.Goals as goal

pub loop-i-preserved : goal.loop-i-preserved
loop-i-preserved g c =
    let f = row_in c.args.starts.now (link_of g.M.Machine.rules c.args.p.now) in
    turn f c.loop-i.i c.index-sections-i.result c.index-sections-i.result c.args.sections.now c.loop-i.out.items c.put.new.out.items
    (c.args.out.now.items ++ rest f 0 c.args.sections.now) _ c.loop-i-test.true c.index-sections-i.is c.section_row.ensures
    c.in_ok-put.ensures c.loop-i.invariant

pub returns : goal.returns
returns g c =
    let f = row_in c.args.starts.now (link_of g.M.Machine.rules c.args.p.now) in
    ended f c.loop-i.i c.args.sections.now c.loop-i.out.items c.args.out.now.items (omega arith)
    c.loop-i.invariant
