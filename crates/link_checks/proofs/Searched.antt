-- The name with given bytes, among names in byte order.
use Rattle.std.proofs.Common.{◌≡◌, ℕ, zero, suc, ◌+◌, ◌<◌, Bool, true, false, cond, List, [], ◌∷◌, length, map, get_or, Some, None, Err, refl, sym, ap, ◌∙◌, subst, inl, inr, arith, find}
use Rattle.std.specs.declared.cmp.Ordering.{Ordering}
use Rattle.std.specs.declared.cmp.Ordering.TheVariants.{Less, Equal, Greater}
use Rattle.std.specs.Ordering.{nat_cmp, is_eq}
use Rattle.std.specs.Cmp.Lexicographic.{slice_cmp, nat_list_cmp_total, texts_ties}
use Rattle.std.specs.List.{All, list_all}
use Rattle.std.specs.List.Sorted.{IsSortedBy, IsBinarySearchResult}
use Rattle.std.proofs.lemmas.Bool.{and_parts, cases_lt}
use Rattle.std.proofs.lemmas.List.Elements.{All-tail}
use Rattle.std.proofs.lemmas.List.Sorted.{searchable_from_sorted}
use Rattle.ifs_interface.specs.Triple.{same_name}
use Rattle.ifs_interface.specs.Interface.{comes_before, ascends}
use Rattle.ifs_interface.proofs.Names.{names_order, same_name-is, before_differs}

equal_same : (a b : List ℕ) → slice_cmp nat_cmp a b ≡ Equal → same_name a b ≡ true
equal_same a b e = texts_ties a b ∙ ap is_eq e

less_differs : (a b : List ℕ) → slice_cmp nat_cmp a b ≡ Less → same_name a b ≡ false
less_differs a b e = texts_ties a b ∙ ap is_eq e

greater_differs : (a b : List ℕ) → slice_cmp nat_cmp a b ≡ Greater → same_name a b ≡ false
greater_differs a b e = texts_ties a b ∙ ap is_eq e

differs_later : (n m name : List ℕ) → comes_before n m ≡ true → same_name m name ≡ true → same_name n name ≡ false
differs_later n m name lt same = subst (λ k. same_name n k ≡ false) (same_name-is m name same) (before_differs n m lt)

module _ {X : Type 0} (key : X → List ℕ) where
  abbrev pub has_key : List ℕ → X → Bool
  has_key name x = same_name (key x) name

  later_at : (n : List ℕ) (xs : List X) (k : ℕ) (d : X) → list_all (comes_before n) (map key xs) ≡ true → k < length xs → comes_before n (key (get_or xs k d)) ≡ true
  later_at n [] k d all lt = absurd (omega arith)
  later_at n (s ∷ ss) zero d all lt = (and_parts (comes_before n (key s)) (list_all (comes_before n) (map key ss)) all).0
  later_at n (s ∷ ss) (suc k) d all lt =
      later_at n ss k d (and_parts (comes_before n (key s)) (list_all (comes_before n) (map key ss)) all).1 (omega arith)

  sorted_from_ascends : (xs : List X) → ascends (map key xs) ≡ true → IsSortedBy (λ a b. comes_before (key a) (key b)) xs
  sorted_from_ascends [] up k d low lt = absurd (omega arith)
  sorted_from_ascends (s ∷ ss) up zero d low lt =
      let parts = and_parts (list_all (comes_before (key s)) (map key ss)) (ascends (map key ss)) up in
      names_order.one_way (key s) (key (get_or ss 0 d)) (later_at (key s) ss 0 d parts.0 (omega arith))
  sorted_from_ascends (s ∷ ss) up (suc k) d low lt =
      let parts = and_parts (list_all (comes_before (key s)) (map key ss)) (ascends (map key ss)) up in
      let e : suc k + 1 ≡ suc (k + 1) = omega arith in
      let P : ℕ → Type 0 = λ n. comes_before (key (get_or (s ∷ ss) n d)) (key (get_or ss k d)) ≡ false in
      subst P (sym e) (sorted_from_ascends ss parts.1 k d (omega arith) (omega arith))

  found_at : (name : List ℕ) (xs : List X) (place : ℕ) (d : X) → ascends (map key xs) ≡ true → place < length xs → same_name (key (get_or xs place d)) name ≡ true → find (has_key name) xs ≡ Some (get_or xs place d)
  found_at name [] place d up lt same = absurd (omega arith)
  found_at name (s ∷ ss) zero d up lt same = ap (λ t. cond t (Some s) (find (has_key name) ss)) same
  found_at name (s ∷ ss) (suc k) d up lt same =
      let parts = and_parts (list_all (comes_before (key s)) (map key ss)) (ascends (map key ss)) up in
      let past = differs_later (key s) (key (get_or ss k d)) name (later_at (key s) ss k d parts.0 (omega arith)) same in
      ap (λ t. cond t (Some s) (find (has_key name) ss)) past ∙ found_at name ss k d parts.1 (omega arith) same

  none_found : (name : List ℕ) (xs : List X) → All (λ s. has_key name s ≡ false) xs → find (has_key name) xs ≡ None
  none_found name [] all = refl
  none_found name (s ∷ ss) all =
      ap (λ t. cond t (Some s) (find (has_key name) ss)) (all 0 s (omega arith)) ∙ none_found name ss (All-tail (λ s. has_key name s ≡ false) s ss all)

  abbrev against : List ℕ → X → Ordering
  against name x = slice_cmp nat_cmp (key x) name

  pub search_found : (name : List ℕ) (xs : List X) (place : ℕ) (s : X) → ascends (map key xs) ≡ true → place < length xs → ((d : X) → against name (get_or xs place d) ≡ Equal) → s ≡ get_or xs place s → Some s ≡ find (has_key name) xs
  search_found name xs place s up lt equal is =
      sym (found_at name xs place s up lt (equal_same (key (get_or xs place s)) name (equal s)) ∙ ap Some (sym is))

  pub search_missed : (name : List ℕ) (xs : List X) (place : ℕ) → ascends (map key xs) ≡ true → IsBinarySearchResult (against name) xs (Err place) → None ≡ find (has_key name) xs
  search_missed name xs place up missed =
      let split = missed (searchable_from_sorted nat_list_cmp_total key xs name (sorted_from_ascends xs up)) in
      let each : All (λ s. has_key name s ≡ false) xs = λ k d lt. elim (cases_lt k place) as (λ _. has_key name (get_or xs k d) ≡ false) [
        | inl before ↦ less_differs (key (get_or xs k d)) name (split.0 k d (omega arith) before)
        | inr behind ↦ greater_differs (key (get_or xs k d)) name (split.1 k d behind lt)
      ] in
      sym (none_found name xs each)
