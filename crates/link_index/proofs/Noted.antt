-- A place is noted for the first of equal items.
use Rattle.std.proofs.Common.{arith, ◌≡◌, ◌≤◌, ℕ, ◌+◌, nat_eq, nat_lt, Bool, true, false, cond, List, [], ◌∷◌, ◌++◌, length, not, position, Some, None, refl, ap, sym, ◌∙◌}
use Rattle.std.specs.List.{position_or_len}
use Rattle.std.specs.Cmp.{IsEquivalence}
use Rattle.std.proofs.lemmas.List.{length_push}
use Rattle.std.proofs.lemmas.List.Sums.{prefix_len-le-length}
use Rattle.std.proofs.lemmas.Option.{none-some}
use Rattle.std.proofs.Math.Path.{fun_ext}
use Rattle.std.proofs.lemmas.List.Folds.{position_or_len_push}
use Rattle.indexmap.specs.IndexMap.{IndexMap, get, Updates}
use Rattle.link_index.specs.Index.{ArePlaces}

next : (n l m : ℕ) (t : Bool) → n ≤ l → m ≡ cond (nat_eq n l) (l + cond t 0 1) n
    → cond (nat_lt m (l + 1)) (Some m) None ≡ cond (nat_lt n l) (Some n) (cond t (Some l) None)
next n l m t le e = grind (arith)

position_push : {K : Type 0} (p : K → Bool) (xs : List K) (y : K)
    → position p (xs ++ y ∷ []) ≡ cond (nat_lt (position_or_len p xs) (length xs)) (Some (position_or_len p xs)) (cond (p y) (Some (length xs)) None)
position_push p xs y =
    ap (λ len. cond (nat_lt (position_or_len p (xs ++ y ∷ [])) len) (Some (position_or_len p (xs ++ y ∷ []))) None) (length_push xs y)
    ∙ next _ _ _ (p y) (prefix_len-le-length (λ x. not (p x)) xs) (position_or_len_push p xs y)

-- found before, or the new item
found : (b : Bool) (n l : ℕ) → cond b (Some n) None ≡ None → cond b (Some n) (Some l) ≡ Some l
found true n l e = absurd (none-some n (sym e))
found false n l e = refl

-- found before stays found
stays : (b t : Bool) (n l place : ℕ) → cond b (Some n) None ≡ Some place → cond b (Some n) None ≡ cond b (Some n) (cond t (Some l) None)
stays true t n l place e = refl
stays false t n l place e = absurd (none-some place e)

module _ {K : Type 0} (same : K → K → Bool) (laws : IsEquivalence same) (items : List K) (item : K) where
  equal_one : (k : K) → position (same item) items ≡ None → same item k ≡ true
      → position (same k) (items ++ item ∷ []) ≡ Some (length items)
  equal_one k none e =
      let alike = fun_ext (λ z. laws.congr item k z e) in
      position_push (same k) items item
      ∙ ap (λ t. cond (nat_lt (position_or_len (same k) items) (length items)) (Some (position_or_len (same k) items)) (cond t (Some (length items)) None)) (laws.symm k item ∙ e)
      ∙ found _ _ _ (sym (ap (λ test. position test items) alike) ∙ none)

  other_one : (k : K) → same item k ≡ false → position (same k) (items ++ item ∷ []) ≡ position (same k) items
  other_one k e =
      position_push (same k) items item
      ∙ ap (λ t. cond (nat_lt (position_or_len (same k) items) (length items)) (Some (position_or_len (same k) items)) (cond t (Some (length items)) None)) (laws.symm k item ∙ e)

  by_case : {S : Type 0} (k : K) (b : Bool) (place : ℕ) (m : IndexMap K ℕ S) → same item k ≡ b → length items ≡ place → ArePlaces same items m → get same m item ≡ None
      → cond b (Some place) (get same m k) ≡ position (same k) (items ++ item ∷ [])
  by_case k true place m e long are none = ap Some (sym long) ∙ sym (equal_one k (sym (are item) ∙ none) e)
  by_case k false place m e long are none = are k ∙ sym (other_one k e)

  pub noted : {S : Type 0} (place : ℕ) (m n : IndexMap K ℕ S) → length items ≡ place → ArePlaces same items m → get same m item ≡ None
      → Updates same m n item (Some place) → ArePlaces same (items ++ item ∷ []) n
  noted place m n long are none updates k = updates.0 k ∙ by_case k (same item k) place m refl long are none

  -- an item that has a place
  kept_case : {S : Type 0} (k : K) (b : Bool) (place : ℕ) (m : IndexMap K ℕ S) → same item k ≡ b → ArePlaces same items m → get same m item ≡ Some place
      → position (same k) items ≡ position (same k) (items ++ item ∷ [])
  kept_case k true place m e are some =
      let alike = fun_ext (λ z. laws.congr item k z e) in
      stays _ (same k item) _ _ place (sym (ap (λ test. position test items) alike) ∙ sym (are item) ∙ some)
      ∙ sym (position_push (same k) items item)
  kept_case k false place m e are some = sym (other_one k e)

  pub kept : {S : Type 0} (place : ℕ) (m : IndexMap K ℕ S) → ArePlaces same items m → get same m item ≡ Some place → ArePlaces same (items ++ item ∷ []) m
  kept place m are some k = are k ∙ kept_case k (same item k) place m refl are some
