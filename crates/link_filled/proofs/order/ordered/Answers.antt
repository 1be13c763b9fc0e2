use Rattle.std.proofs.Common.{ap, ◌∙◌, rules}
use Rattle.std.proofs.lemmas.List.Sorted.{answers_always}
use Rattle.link_core.specs.OutputNames.{by_priority}
use Rattle.link_filled.specs.Fills.{before}
use Rattle.link_filled.proofs.Stable.{before_ranks, stable_is}
use Rattle.link_filled.proofs.order.ordered.Goals as goal

pub returns : goal.returns
returns c =
    stable_is c.in_ok-all.all.items c.sort_by.new.self.items
    (c.in_ok-sort_by.ensures.sorted before before_ranks (answers_always _ _ _ (λ f a r g h. search rules)))
    (c.in_ok-sort_by.ensures.stable before before_ranks (answers_always _ _ _ (λ f a r g h. search rules)))
    ∙ ap by_priority c.in_ok-all.ensures
