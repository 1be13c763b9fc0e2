use Rattle.std.proofs.Common.{rules}
use Rattle.std.proofs.lemmas.List.Sorted.{answers_always}
use Rattle.tbd_core.proofs.Sorting.{before, before_ranks, stable_keeps}
use Rattle.tbd_core.proofs.Runs.{same_groups}
use Rattle.tbd_v4.specs.Listed.{targets_of}
use Rattle.tbd_v4.proofs.listed.sorted.Goals as goal

pub returns : goal.returns
returns c = record {
  rising = c.in_ok-sort_by.ensures.sorted (before targets_of) (before_ranks targets_of) (answers_always _ _ _ (λ f a r g h. search rules));
  same_groups = same_groups targets_of _ _ (stable_keeps targets_of _ _ (c.in_ok-sort_by.ensures.stable (before targets_of) (before_ranks targets_of) (answers_always _ _ _ (λ f a r g h. search rules))));
}
