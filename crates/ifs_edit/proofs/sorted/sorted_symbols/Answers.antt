use Rattle.std.proofs.Common.{sym, ap, ◌∙◌, rules}
use Rattle.std.specs.List.{list_all}
use Rattle.std.proofs.lemmas.List.Sorted.{answers_always}
use Rattle.ifs_interface.specs.Interface.{is_proper_name, names_of}
use Rattle.ifs_edit.proofs.Sorting.{before, before_ranks, sorted_by_name}
use Rattle.ifs_edit.proofs.sorted.sorted_symbols.Goals as goal

pub returns-clause-sorted : goal.returns-clause-sorted
returns-clause-sorted c =
    sorted_by_name _ c.in_ok-all.all.items c.sort_by.new.self.items c.in_ok-all.ensures.value
    (c.in_ok-sort_by.ensures.sorted before before_ranks (answers_always _ _ _ (λ f a r g h. search rules)))
    (c.in_ok-sort_by.ensures.stable before before_ranks (answers_always _ _ _ (λ f a r g h. search rules)))

pub returns-clause-proper : goal.returns-clause-proper
returns-clause-proper c = ap (λ all. list_all is_proper_name (names_of all)) (sym c.in_ok-all.ensures.value) ∙ c.in_ok-all.ensures.proper
