use Rattle.std.proofs.Common.{◌≡◌, ◌++◌}
use Rattle.link_dynsym.proofs.Turns.{rest}
use Rattle.link_dynsym.specs.Made.{link_of}
use Rattle.link_dynsym.specs.Rows.{export_in}
use Rattle.link_dynsym.proofs.put.put_exports.Given as goal

abbrev pub invariant-loop-i : goal.invariant-loop-i
invariant-loop-i g l =
    let f = export_in l.starts (link_of g.M.Machine.rules l.p) l.p.layout in
    l.out.items ++ rest f l.first l.i l.exports ≡ l.fn.out.items ++ rest f l.first 0 l.exports
