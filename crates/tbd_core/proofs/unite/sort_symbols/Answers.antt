use Rattle.std.proofs.Common.{rules}
use Rattle.std.proofs.lemmas.List.Sorted.{answers_always}
use Rattle.tbd_core.specs.Keys.{key_of}
use Rattle.tbd_core.proofs.Sorting.{before, before_ranks, stable_keeps}
use Rattle.tbd_core.proofs.unite.sort_symbols.Goals as goal

pub returns : goal.returns
returns c = record {
  rising = c.in_ok-sort_by.ensures.sorted (before key_of) (before_ranks key_of) (answers_always _ _ _ (λ f a r g h. search rules));
  same_symbols = stable_keeps key_of _ _ (c.in_ok-sort_by.ensures.stable (before key_of) (before_ranks key_of) (answers_always _ _ _ (λ f a r g h. search rules)));
}
