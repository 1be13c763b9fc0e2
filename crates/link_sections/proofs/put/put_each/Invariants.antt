use Rattle.std.proofs.Common.{◌≡◌, ◌++◌}
use Rattle.link_placed.specs.Made.{link_of}
use Rattle.link_sections.proofs.Turns.{rest}
use Rattle.link_sections.specs.Rows.{row_in}
use Rattle.link_sections.proofs.put.put_each.Given as goal

abbrev pub invariant-loop-i : goal.invariant-loop-i
invariant-loop-i g l =
    let f = row_in l.starts (link_of g.M.Machine.rules l.p) in
    l.out.items ++ rest f l.i l.sections ≡ l.fn.out.items ++ rest f 0 l.sections
