-- Binary searches in lists that ascend.
use Rattle.std.proofs.Common.{◌≡◌, ℕ, suc, zero, ◌+◌, ◌-◌, ◌<◌, ◌≤◌, Bool, true, false, cond, List, [], ◌∷◌, length, map, filter, drop, take, get_or, refl, ap, ◌∙◌, arith}
use Rattle.std.proofs.lemmas.Bool.Decides.{nat_tests}
use Rattle.std.specs.List.{AllByRecursion, AllWithin}
use Rattle.std.specs.List.Sorted.{IsPartitionedBy, IsPartitionPoint}
use Rattle.std.specs.Prelude.{slice_range}
use Rattle.link_core.specs.declared.refusal.At.{At}
use Rattle.link_order.specs.Order.{Ascends, at_before, is_before, is_of}
use Rattle.link_order.proofs.Runs.{either}

module _ {X : Type 0} where
  all_at : (P : X → Type 0) (xs : List X) (i : ℕ) (d : X) → i < length xs → AllByRecursion P xs
      → P (get_or xs i d)
  all_at P [] i d lt h = absurd (omega (arith, lt))
  all_at P (x ∷ xs) zero d lt h = h.0
  all_at P (x ∷ xs) (suc i) d lt h = all_at P xs i d (omega (arith, lt)) h.1

  -- what holds within the rest of a list
  pub behind_first : (P : X → Type 0) (x : X) (xs : List X) (low high : ℕ)
      → AllWithin P (x ∷ xs) (suc low) (suc high) → AllWithin P xs low high
  behind_first P x xs low high h = λ k d le lt. h (suc k) d (omega (arith, le)) (omega (arith, lt))

  pub from_start : (P : X → Type 0) (x : X) (xs : List X) (high : ℕ) → AllWithin P (x ∷ xs) zero (suc high)
      → AllWithin P xs zero high
  from_start P x xs high h = λ k d le lt. h (suc k) d (omega arith) (omega (arith, lt))

  pub all_behind : (P : X → Type 0) (xs : List X) (n : ℕ) → AllWithin P xs n (length xs)
      → AllByRecursion P (drop n xs)
  all_behind P [] zero h = tt
  all_behind P [] (suc n) h = tt
  all_behind P (x ∷ xs) zero h = (
    h zero x (omega arith) (omega arith),
    all_behind P xs zero (from_start P x xs (length xs) h),
  )
  all_behind P (x ∷ xs) (suc n) h = all_behind P xs n (behind_first P x xs n (length xs) h)

  -- how many pass a test that passes up to a place
  pub count_split : (p : X → Bool) (xs : List X) (n : ℕ) → n ≤ length xs
      → IsPartitionPoint (λ y. p y ≡ true) (λ y. p y ≡ false) xs n → length (filter p xs) ≡ n
  count_split p [] zero le h = refl
  count_split p [] (suc n) le h = absurd (omega (arith, le))
  count_split p (x ∷ xs) zero le h =
      let fails : p x ≡ false = h.1 zero x (omega arith) (omega arith) in
      ap (λ b. length (cond b (x ∷ filter p xs) (filter p xs))) fails
      ∙ count_split p xs zero (omega arith)
      (λ k d low high. absurd (omega (arith, high)), from_start (λ y. p y ≡ false) x xs (length xs) h.1)
  count_split p (x ∷ xs) (suc n) le h =
      let passes : p x ≡ true = h.0 zero x (omega arith) (omega arith) in
      ap (λ b. length (cond b (x ∷ filter p xs) (filter p xs))) passes
      ∙ ap suc (count_split p xs n (omega (arith, le))
      (from_start (λ y. p y ≡ true) x xs n h.0, behind_first (λ y. p y ≡ false) x xs n (length xs) h.1))

  -- none passes before a place
  pub count_behind : (p q : X → Bool) (apart : (x : X) → q x ≡ true → p x ≡ false) (xs : List X) (n : ℕ)
      → n ≤ length xs → AllWithin (λ y. q y ≡ true) xs 0 n
      → length (filter p xs) ≡ length (filter p (drop n xs))
  count_behind p q apart [] zero le h = refl
  count_behind p q apart [] (suc n) le h = refl
  count_behind p q apart (x ∷ xs) zero le h = refl
  count_behind p q apart (x ∷ xs) (suc n) le h =
      let fails : p x ≡ false = apart x (h zero x (omega arith) (omega arith)) in
      ap (λ b. length (cond b (x ∷ filter p xs) (filter p xs))) fails
      ∙ count_behind p q apart xs n (omega (arith, le)) (from_start (λ y. q y ≡ true) x xs n h)

  pub count_mapped : {Y : Type 0} (f : Y → X) (p : X → Bool) (ys : List Y)
      → length (filter p (map f ys)) ≡ length (filter (λ y. p (f y)) ys)
  count_mapped f p [] = refl
  count_mapped f p (y ∷ ys) = by (p (f y)) (count_mapped f p ys)
    where
      by : (b : Bool) → length (filter p (map f ys)) ≡ length (filter (λ z. p (f z)) ys)
          → length (cond b (f y ∷ filter p (map f ys)) (filter p (map f ys)))
          ≡ length (cond b (y ∷ filter (λ z. p (f z)) ys) (filter (λ z. p (f z)) ys))
      by true e = ap suc e
      by false e = e

module _ {X : Type 0} (order : X → X → Bool) where
  pub ascends_drop : (n : ℕ) (xs : List X) → Ascends order xs → Ascends order (drop n xs)
  ascends_drop zero xs a = a
  ascends_drop (suc n) [] a = tt
  ascends_drop (suc n) (x ∷ xs) a = ascends_drop n xs a.1

  -- a test that passes before each item at which it passes, where all are good
  pub partitioned : (p : X → Bool) (Good : X → Type 0) (falls : (x y : X) → order x y ≡ true → Good x
      → p y ≡ true → p x ≡ true) (xs : List X) → Ascends order xs → AllByRecursion Good xs
      → IsPartitionedBy p xs
  partitioned p Good falls [] a g i j d le lt h = absurd (omega (arith, lt))
  partitioned p Good falls (x ∷ xs) a g zero zero d le lt h = h
  partitioned p Good falls (x ∷ xs) a g zero (suc j) d le lt h =
      falls x (get_or xs j d) (all_at (λ y. order x y ≡ true) xs j d (omega (arith, lt)) a.0) g.0 h
  partitioned p Good falls (x ∷ xs) a g (suc i) zero d le lt h = absurd (omega (arith, le))
  partitioned p Good falls (x ∷ xs) a g (suc i) (suc j) d le lt h =
      partitioned p Good falls xs a.1 g.1 i j d (omega (arith, le)) (omega (arith, lt)) h

-- ---- the run of a section

pub all_always : {X : Type 0} (P : X → Type 0) → ((x : X) → P x) → (xs : List X) → AllByRecursion P xs
all_always P f [] = tt
all_always P f (x ∷ xs) = (f x, all_always P f xs)

abbrev pub SplitsAt : {X : Type 0} → (X → Bool) → List X → ℕ → Type 0
SplitsAt p xs n = IsPartitionedBy p xs → IsPartitionPoint (λ y. p y ≡ true) (λ y. p y ≡ false) xs n

module _ (object section : ℕ) where
  before_falls : (a b : At) → at_before a b ≡ true → Unit {0} → is_before object section b ≡ true
      → is_before object section a ≡ true
  before_falls a b h good e = grind (arith, nat_tests)

  of_falls : (a b : At) → at_before a b ≡ true → is_before object section a ≡ false
      → is_of object section b ≡ true → is_of object section a ≡ true
  of_falls a b h good e = grind (arith, nat_tests)

  module _ {X : Type 0} (at : X → At) where
    abbrev before_by : X → Bool
    before_by x = is_before object section (at x)

    abbrev of_by : X → Bool
    of_by x = is_of object section (at x)

    abbrev order_by : X → X → Bool
    order_by x y = at_before (at x) (at y)

    module _ (xs : List X) (start count : ℕ) (in_order : Ascends order_by xs) (within : start ≤ length xs)
        (some : count ≤ length (drop start xs)) (first : SplitsAt before_by xs start)
        (second : SplitsAt of_by (drop start xs) count) where
      split : IsPartitionPoint (λ y. before_by y ≡ true) (λ y. before_by y ≡ false) xs start
      split =
          first
          (partitioned order_by before_by (λ x. Unit {0}) (λ x y. before_falls (at x) (at y)) xs in_order
          (all_always (λ x. Unit {0}) (λ x. tt) xs))

      pub start_is : length (filter before_by xs) ≡ start
      start_is = count_split before_by xs start within split

      rest_split : IsPartitionPoint (λ y. of_by y ≡ true) (λ y. of_by y ≡ false) (drop start xs) count
      rest_split =
          second
          (partitioned order_by of_by (λ x. before_by x ≡ false) (λ x y. of_falls (at x) (at y))
          (drop start xs) (ascends_drop order_by start xs in_order)
          (all_behind (λ x. before_by x ≡ false) xs start split.1))

      pub count_is : length (filter of_by xs) ≡ count
      count_is =
          count_behind of_by before_by (λ x. either object section (at x)) xs start within split.0
          ∙ count_split of_by (drop start xs) count some rest_split

pub range_by : {X : Type 0} (us : List X) (before of start count : ℕ) → before ≡ start → of ≡ count
    → take of (drop before us) ≡ slice_range us start (start + count)
range_by us before of start count e f =
    let same : of ≡ start + count - start = omega (arith, f) in
    ap (λ n. take n (drop before us)) same ∙ ap (λ n. take (start + count - start) (drop n us)) e
