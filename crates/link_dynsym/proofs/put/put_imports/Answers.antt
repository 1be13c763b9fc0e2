use Rattle.std.proofs.Common.{◌++◌, arith, refl}
use Rattle.link_dynsym.proofs.Turns.{ended, rest, turn}
use Rattle.link_dynsym.specs.Made.{link_of}
use Rattle.link_dynsym.specs.Rows.{import_in}
use Rattle.link_dynsym.proofs.put.put_imports.Goals as goal

pub loop-i-preserved : goal.loop-i-preserved
loop-i-preserved g c =
    let f = import_in c.args.starts.now (link_of g.M.Machine.rules c.args.p.now) in
    turn f 0 c.loop-i.i c.loop-i.i _ _ c.args.imports.now c.loop-i.out.items c.put.new.out.items (c.args.out.now.items ++ rest f 0 0 c.args.imports.now) _
    c.loop-i-test.true (omega arith) refl c.import_at.ensures c.in_ok-put.ensures c.loop-i.invariant

pub returns : goal.returns
returns g c =
    let f = import_in c.args.starts.now (link_of g.M.Machine.rules c.args.p.now) in
    ended f 0 c.loop-i.i c.args.imports.now c.loop-i.out.items c.args.out.now.items (omega arith) c.loop-i.invariant
