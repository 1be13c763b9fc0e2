use Rattle.std.proofs.Common.{rules}
use Rattle.std.proofs.lemmas.List.Sorted.{answers_always}
use Rattle.link_mentions.proofs.Sorting.{before, before_ranks, sorted_by_name}
use Rattle.link_mentions.proofs.by_name.sorted.Goals as goal

pub returns : goal.returns
returns c =
    sorted_by_name c.args.mentions.items c.sort_by.new.self.items
    (c.in_ok-sort_by.ensures.sorted before before_ranks (answers_always _ _ _ (λ f a r g h. search rules)))
    (c.in_ok-sort_by.ensures.stable before before_ranks (answers_always _ _ _ (λ f a r g h. search rules)))
