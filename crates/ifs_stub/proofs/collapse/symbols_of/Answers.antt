use Rattle.std.proofs.Common.{◌≡◌, sym, ap, ◌∙◌, subst}
use Rattle.std.specs.List.{list_all}
use Rattle.std.proofs.lemmas.Result.{IfOk-weaker}
use Rattle.ifs_interface.specs.Interface.{ascends, is_proper_name, names_of}
use Rattle.elf_dyn.specs.ByName.{rows_at, AreInNameOrder}
use Rattle.ifs_stub.specs.Rows.{pointed, symbols_by_name}
use Rattle.ifs_stub.proofs.Sorting.{pointed_in_order, symbols_of_sorted, names_ascend, names_are_proper}
use Rattle.ifs_stub.proofs.collapse.symbols_of.Goals as goal

the_symbols : (c : goal.After-drop-sorted) → symbols_by_name (pointed c.as_slice.result.now) ≡ symbols_by_name c.args.rows.now
the_symbols c =
    ap (λ sorted. symbols_by_name (pointed sorted)) c.as_slice.ensures.value
    ∙ ap symbols_by_name c.in_ok-sorted.ensures
    ∙ symbols_of_sorted c.args.rows.now (rows_at c.args.rows.now c.args.places.now) c.requires

pub collapsed-requires : goal.collapsed-requires
collapsed-requires c =
    pointed_in_order c.as_slice.result.now (subst AreInNameOrder (sym (ap pointed c.as_slice.ensures.value ∙ c.in_ok-sorted.ensures)) c.requires.rising)

pub returns-clause-symbols : goal.returns-clause-symbols
returns-clause-symbols c = IfOk-weaker c.collapsed.result _ _ (λ symbols e. e ∙ the_symbols c) c.collapsed.ensures

pub returns-clause-ascending : goal.returns-clause-ascending
returns-clause-ascending c =
    IfOk-weaker c.collapsed.result _ _ (λ symbols e. ap (λ all. ascends (names_of all)) (e ∙ the_symbols c) ∙ names_ascend c.args.rows.now) c.collapsed.ensures

pub returns-clause-proper : goal.returns-clause-proper
returns-clause-proper c =
    IfOk-weaker c.collapsed.result _ _ (λ symbols e proper. ap (λ all. list_all is_proper_name (names_of all)) (e ∙ the_symbols c) ∙ names_are_proper c.args.rows.now proper) c.collapsed.ensures
