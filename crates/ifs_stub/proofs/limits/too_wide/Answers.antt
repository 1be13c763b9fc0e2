use Rattle.std.proofs.Common.{sym, ◌∙◌}
use Rattle.std.specs.List.{find}
use Rattle.std.proofs.lemmas.List.{at_drop_all}
use Rattle.ifs_stub.specs.Stub.{is_too_wide}
use Rattle.ifs_stub.proofs.SymbolRows.{none_found}
use Rattle.ifs_stub.proofs.limits.too_wide.Goals as goal

pub returns-clause-none : goal.returns-clause-none
returns-clause-none c =
    let p = is_too_wide c.args.width in
    none_found p c.args.symbols.now (sym c.loop-symbol.invariant.left ∙ at_drop_all (find p) c.args.symbols.now c.loop-symbol.symbol-index c.loop-symbol-test.false)
