use Rattle.std.proofs.Common.{◌≡◌, ◌++◌}
use Rattle.link_dynsym.proofs.Turns.{rest}
use Rattle.link_dynsym.specs.Made.{link_of}
use Rattle.link_dynsym.specs.Rows.{import_in}
use Rattle.link_dynsym.proofs.put.put_imports.Given as goal

abbrev pub invariant-loop-i : goal.invariant-loop-i
invariant-loop-i g l =
    let f = import_in l.starts (link_of g.M.Machine.rules l.p) in
    l.out.items ++ rest f 0 l.i l.imports ≡ l.fn.out.items ++ rest f 0 0 l.imports
