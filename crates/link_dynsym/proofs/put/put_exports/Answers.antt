use Rattle.std.proofs.Common.{◌++◌, arith, refl}
use Rattle.link_dynsym.proofs.Turns.{ended, rest, turn}
use Rattle.link_dynsym.specs.Made.{link_of}
use Rattle.link_dynsym.specs.Rows.{export_in}
use Rattle.link_dynsym.proofs.put.put_exports.Goals as goal

pub loop-i-preserved : goal.loop-i-preserved
loop-i-preserved g c =
    let f = export_in c.args.starts.now (link_of g.M.Machine.rules c.args.p.now) c.args.p.now.layout in
    turn f c.args.first c.loop-i.i _ _ _ c.args.exports.now c.loop-i.out.items c.put.new.out.items (c.args.out.now.items ++ rest f c.args.first 0 c.args.exports.now) _
    c.loop-i-test.true refl refl c.export_at.ensures c.in_ok-put.ensures c.loop-i.invariant

pub returns : goal.returns
returns g c =
    let f = export_in c.args.starts.now (link_of g.M.Machine.rules c.args.p.now) c.args.p.now.layout in
    ended f c.args.first c.loop-i.i c.args.exports.now c.loop-i.out.items c.args.out.now.items (omega arith) c.loop-i.invariant
