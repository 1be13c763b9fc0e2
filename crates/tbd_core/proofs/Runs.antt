-- Things in order of their keys, run by run.
use Rattle.std.proofs.Common.{◌≡◌, ℕ, ◌+◌, ◌<◌, ◌≤◌, Bool, List, [], ◌∷◌, ◌++◌, map, take, drop, length, get_or, cond, refl, sym, ap, ◌∙◌, append_assoc, arith}
use Rattle.std.specs.List.{flat_map, prefix_len, take_while}
use Rattle.std.specs.List.Sorted.{IsSortedByKey}
use Rattle.std.specs.Ordering.{nat_cmp, is_eq}
use Rattle.std.specs.Cmp.Lexicographic.{slice_cmp, texts_ties}
use Rattle.std.proofs.lemmas.List.{drop_all, append-nil}
use Rattle.std.proofs.lemmas.List.Folds.{length-prefix_len}
use Rattle.ifs_interface.specs.Triple.{same_name}
use Rattle.ifs_interface.proofs.Names.{rises-from_sorted}
use Rattle.ifs_interface.proofs.Groups as groups
use Rattle.tbd_core.specs.Groups.{of_key, grouped, run_size}

prefix_agree : {X : Type 0} (p q : X → Bool) → ((x : X) → p x ≡ q x) → (xs : List X) → prefix_len p xs ≡ prefix_len q xs
prefix_agree p q h [] = refl
prefix_agree p q h (x ∷ xs) = λ i. cond (h x i) (1 + prefix_agree p q h xs i) 0

module _ {X : Type 0} (key : X → List ℕ) where
  size_is : (xs : List X) → run_size key xs ≡ groups.run_size key xs
  size_is [] = refl
  size_is (x ∷ xs) = refl

  pub run_within : (xs : List X) → 0 < length xs → (0 < run_size key xs) × (run_size key xs ≤ length xs)
  run_within xs h =
      let within = groups.run_size_in key xs h in
      let same = size_is xs in
      (omega arith, omega arith)

  -- the groups from a place on: the run there, and those behind it
  pub groups_at : (xs : List X) (start : ℕ) (rest run : List X) (k : ℕ) → IsSortedByKey key (slice_cmp nat_cmp) xs → start < length xs → rest ≡ drop start xs → k ≡ run_size key rest → run ≡ take k rest → grouped key (drop start xs) ≡ run ∷ grouped key (drop (start + k) xs)
  unfolding grouped
  groups_at xs start rest run k up within rest_is k_is run_is =
      let length_is : groups.run_size key (drop start xs) ≡ k = sym (k_is ∙ ap (run_size key) rest_is ∙ size_is (drop start xs)) in
      let front : run ≡ take k (drop start xs) = run_is ∙ ap (take k) rest_is in
      groups.groups_from key xs start (rises-from_sorted key xs up) within
      ∙ (λ i. take (length_is i) (drop start xs) ∷ grouped key (drop (start + length_is i) xs))
      ∙ ap (λ group. group ∷ grouped key (drop (start + k) xs)) (sym front)

  -- things of the same keys in the same order are in the same groups
  pub same_groups : (xs ys : List X) → ((k : List ℕ) → of_key key k xs ≡ of_key key k ys) → grouped key xs ≡ grouped key ys
  unfolding grouped
  same_groups xs ys same = groups.same_groups key xs ys same

  module _ {Y : Type 0} (f : List X → Y) where
    -- a turn: the run becomes one
    pub one_more : (xs : List X) (start : ℕ) (rest run : List X) (k : ℕ) (done all : List Y) → IsSortedByKey key (slice_cmp nat_cmp) xs → start < length xs → rest ≡ drop start xs → k ≡ run_size key rest → run ≡ take k rest → all ≡ done ++ map f (grouped key (drop start xs)) → all ≡ (done ++ f run ∷ []) ++ map f (grouped key (drop (start + k) xs))
    one_more xs start rest run k done all up within rest_is k_is run_is so_far =
        so_far
        ∙ ap (λ gs. done ++ map f gs) (groups_at xs start rest run k up within rest_is k_is run_is)
        ∙ sym (append_assoc done (f run ∷ []) (map f (grouped key (drop (start + k) xs))))

    -- nothing is left
    pub none_more : (xs : List X) (start : ℕ) (done all : List Y) → length xs ≤ start → all ≡ done ++ map f (grouped key (drop start xs)) → all ≡ done
    unfolding grouped
    none_more xs start done all past so_far =
        so_far ∙ ap (λ left. done ++ map f (grouped key left)) (drop_all start xs past) ∙ append-nil done

  module _ (f : List X → List ℕ) where
    -- a turn of what is printed run by run
    pub more_printed : (xs : List X) (start : ℕ) (rest run : List X) (k : ℕ) (done all : List ℕ) → IsSortedByKey key (slice_cmp nat_cmp) xs → start < length xs → rest ≡ drop start xs → k ≡ run_size key rest → run ≡ take k rest → all ≡ done ++ flat_map f (grouped key (drop start xs)) → all ≡ (done ++ f run) ++ flat_map f (grouped key (drop (start + k) xs))
    more_printed xs start rest run k done all up within rest_is k_is run_is so_far =
        so_far
        ∙ ap (λ gs. done ++ flat_map f gs) (groups_at xs start rest run k up within rest_is k_is run_is)
        ∙ sym (append_assoc done (f run) (flat_map f (grouped key (drop (start + k) xs))))

    pub none_printed : (xs : List X) (start : ℕ) (done all : List ℕ) → length xs ≤ start → all ≡ done ++ flat_map f (grouped key (drop start xs)) → all ≡ done
    unfolding grouped
    none_printed xs start done all past so_far =
        so_far ∙ ap (λ left. done ++ flat_map f (grouped key left)) (drop_all start xs past) ∙ append-nil done

  -- how many at the front have the key of the first, by comparing
  pub front_by_order : (xs : List X) (first : X) → 0 < length xs → first ≡ get_or xs 0 first → run_size key xs ≡ length (take_while (λ x. is_eq (slice_cmp nat_cmp (key x) (key first))) xs)
  front_by_order [] first h e = absurd (omega arith)
  front_by_order (x ∷ xs) first h e =
      let tied : X → X → Bool = λ one other. is_eq (slice_cmp nat_cmp (key other) (key one)) in
      prefix_agree (λ other. same_name (key other) (key x)) (tied x) (λ other. texts_ties (key other) (key x)) (x ∷ xs)
      ∙ ap (λ one. prefix_len (tied one) (x ∷ xs)) (sym e)
      ∙ sym (length-prefix_len (tied first) (x ∷ xs))
