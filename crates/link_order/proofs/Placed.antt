-- What is at a place, found by a binary search.
use Rattle.std.proofs.Common.{◌≡◌, ℕ, suc, zero, ◌≤◌, Bool, true, false, cond, List, [], ◌∷◌, length, Some, None, refl, ap, ◌∙◌, arith}
use Rattle.std.proofs.lemmas.Bool.Decides.{nat_tests}
use Rattle.std.specs.List.{AllByRecursion, find, slice_get}
use Rattle.std.specs.List.Sorted.{IsPartitionPoint}
use Rattle.link_core.specs.declared.refusal.At.{At}
use Rattle.link_core.specs.Relocations.{same_place}
use Rattle.link_order.specs.Order.{Ascends, at_before}
use Rattle.link_order.specs.Found.{if_at}
use Rattle.link_order.proofs.Ascending.{all_weaker}
use Rattle.link_order.proofs.Searched.{behind_first, from_start}

same_not_before : (a b : At) → at_before a b ≡ true → same_place a b ≡ false
same_not_before a b h = grind (arith, nat_tests)

-- what stands behind a place that isn't before another isn't the other
none_behind : (a b wanted : At) → at_before a wanted ≡ false → same_place a wanted ≡ false
    → at_before a b ≡ true → same_place b wanted ≡ false
none_behind a b wanted e f h = grind (arith, nat_tests)

pub at_falls : (wanted a b : At) → at_before a b ≡ true → Unit {0} → at_before b wanted ≡ true
    → at_before a wanted ≡ true
at_falls wanted a b h good e = grind (arith, nat_tests)

none_found : {X : Type 0} (p : X → Bool) (xs : List X) → AllByRecursion (λ x. p x ≡ false) xs
    → find p xs ≡ None
none_found p [] h = refl
none_found p (x ∷ xs) h = ap (λ b. cond b (Some x) (find p xs)) h.0 ∙ none_found p xs h.1

module _ {X : Type 0} (at : X → At) (wanted : At) where
  abbrev before_by : X → Bool
  before_by x = at_before (at x) wanted

  abbrev same_by : X → Bool
  same_by x = same_place (at x) wanted

  abbrev order_by : X → X → Bool
  order_by x y = at_before (at x) (at y)

  by_first : (x : X) (xs : List X) (b : Bool) → same_by x ≡ b → before_by x ≡ false
      → AllByRecursion (λ y. order_by x y ≡ true) xs
      → cond b (Some x) (find same_by xs) ≡ cond b (Some x) None
  by_first x xs true e f h = refl
  by_first x xs false e f h =
      none_found same_by xs (all_weaker (λ y. order_by x y ≡ true) (λ y. same_by y ≡ false)
      (λ y less. none_behind (at x) (at y) wanted f e less) xs h)

  -- the first that isn't before the place is at it, or none is
  pub found_at : (xs : List X) (n : ℕ) → Ascends order_by xs → n ≤ length xs
      → IsPartitionPoint (λ y. before_by y ≡ true) (λ y. before_by y ≡ false) xs n
      → find same_by xs ≡ if_at same_by (slice_get xs n)
  found_at [] zero a le h = refl
  found_at [] (suc n) a le h = refl
  found_at (x ∷ xs) zero a le h = by_first x xs (same_by x) refl (h.1 zero x (omega arith) (omega arith)) a.0
  found_at (x ∷ xs) (suc n) a le h =
      let passes : before_by x ≡ true = h.0 zero x (omega arith) (omega arith) in
      ap (λ b. cond b (Some x) (find same_by xs)) (same_not_before (at x) wanted passes)
      ∙ found_at xs n a.1 (omega (arith, le)) (
        from_start (λ y. before_by y ≡ true) x xs n h.0,
        behind_first (λ y. before_by y ≡ false) x xs n (length xs) h.1,
      )
