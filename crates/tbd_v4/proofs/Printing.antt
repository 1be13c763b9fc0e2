-- What is printed, run by run.
use Rattle.std.proofs.Common.{◌≡◌, ℕ, ◌+◌, ◌<◌, ◌≤◌, Bool, List, [], ◌∷◌, ◌++◌, drop, take, length, get_or, sym, ap, ◌∙◌, arith}
use Rattle.std.specs.List.{flat_map, prefix_len, take_while}
use Rattle.std.proofs.lemmas.List.Folds.{length-prefix_len}
use Rattle.ifs_interface.specs.Triple.{same_name}
use Rattle.std.specs.Ordering.{nat_cmp}
use Rattle.std.specs.Cmp.Lexicographic.{slice_cmp}
use Rattle.std.specs.List.Sorted.{IsSortedByKey}
use Rattle.tbd_core.specs.declared.dylib.TbdTarget.{TbdTarget}
use Rattle.tbd_core.specs.Groups.{run_size}
use Rattle.tbd_core.proofs.Runs.{more_printed, none_printed}
use Rattle.tbd_v4.specs.Listed.{Listed, targets_of, groups}
use Rattle.tbd_v4.specs.Lines.{group_text, groups_text}

module _ (alone : Bool) (targets : List TbdTarget) where
  pub more_text : (xs : List Listed) (start : ℕ) (rest run : List Listed) (k : ℕ) (done all : List ℕ) → IsSortedByKey targets_of (slice_cmp nat_cmp) xs → start < length xs → rest ≡ drop start xs → k ≡ run_size targets_of rest → run ≡ take k rest → all ≡ done ++ groups_text alone targets (drop start xs) → all ≡ (done ++ group_text alone targets run) ++ groups_text alone targets (drop (start + k) xs)
  unfolding groups_text
  more_text = more_printed targets_of (group_text alone targets)

  pub none_text : (xs : List Listed) (start : ℕ) (done all : List ℕ) → length xs ≤ start → all ≡ done ++ groups_text alone targets (drop start xs) → all ≡ done
  unfolding groups_text
  none_text = none_printed targets_of (group_text alone targets)

  -- names in the same groups are the same text
  pub same_text : (xs ys : List Listed) → groups xs ≡ groups ys → groups_text alone targets xs ≡ groups_text alone targets ys
  unfolding groups_text
  same_text xs ys same = ap (flat_map (group_text alone targets)) same

-- the run at the front, by the targets of the first
pub length_by : (entries : List Listed) (first : Listed) (targets : List ℕ) → 0 < length entries → first ≡ get_or entries 0 first → targets ≡ first.targets → run_size targets_of entries ≡ length (take_while (λ e. same_name e.targets targets) entries)
length_by [] first targets h e f = absurd (omega arith)
length_by (x ∷ xs) first targets h e f =
    let tied : List ℕ → Listed → Bool = λ t later. same_name later.targets t in
    let same : x.targets ≡ targets = sym (f ∙ ap targets_of e) in
    ap (λ t. prefix_len (tied t) (x ∷ xs)) same ∙ sym (length-prefix_len (tied targets) (x ∷ xs))
