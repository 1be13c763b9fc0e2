-- In a list that ascends, what is at a place is found there, and what is of a section stands together.
use Rattle.std.proofs.Common.{◌≡◌, ℕ, suc, zero, Bool, true, false, cond, List, [], ◌∷◌, length, filter, drop, take, Some, refl, sym, subst, ap, ◌∙◌, arith}
use Rattle.std.proofs.lemmas.Bool.Decides.{nat_tests}
use Rattle.std.specs.List.{AllByRecursion, find, slice_get}
use Rattle.link_core.specs.Patch.{uses_at}
use Rattle.link_core.specs.Planned.{uses_by}
use Rattle.link_core.specs.References.{Use, at_of}
use Rattle.link_core.specs.Relocations.{same_place, use_at}
use Rattle.link_core.specs.declared.refusal.At.{At}
use Rattle.link_order.specs.Laws.{SectionsAreRuns, UsesAreFound, count_before, count_of}
use Rattle.link_order.specs.Order.{Ascends, at_before, is_before, is_of, use_before}
use Rattle.link_order.proofs.Ascending.{all_weaker}
use Rattle.link_order.proofs.InLink.{uses_in_order}

-- ---- tests on one pair

own_place : (u : Use) → same_place (at_of u) (at_of u) ≡ true
own_place u = grind (arith, nat_tests)

other_place : (a b : Use) → use_before a b ≡ true → same_place (at_of a) (at_of b) ≡ false
other_place a b h = grind (arith, nat_tests)

-- ---- each is found

all_get : {A : Type 0} (P : A → Type 0) (xs : List A) (i : ℕ) (x : A) → AllByRecursion P xs
    → slice_get xs i ≡ Some x → P x
all_get P [] i x h e = absurd (cc)
all_get P (y ∷ ys) zero x h e = let same : y ≡ x = cc in subst P same h.0
all_get P (y ∷ ys) (suc i) x h e = all_get P ys i x h.1 e

module _ {A : Type 0} (same : A → A → Bool) (before : A → A → Bool) (itself : (x : A) → same x x ≡ true)
    (apart : (x y : A) → before x y ≡ true → same x y ≡ false) where
  pub found : (xs : List A) (i : ℕ) (x : A) → Ascends before xs → slice_get xs i ≡ Some x
      → find (λ y. same y x) xs ≡ Some x
  found [] i x a e = absurd (cc)
  found (y ∷ ys) zero x a e =
      let is : y ≡ x = cc in
      let here : same y x ≡ true = subst (λ (z : A). same y z ≡ true) is (itself y) in
      ap (λ b. cond b (Some y) (find (λ z. same z x) ys)) here ∙ ap Some is
  found (y ∷ ys) (suc i) x a e =
      let not_here : same y x ≡ false = apart y x (all_get (λ z. before y z ≡ true) ys i x a.0 e) in
      ap (λ b. cond b (Some y) (find (λ z. same z x) ys)) not_here ∙ found ys i x a.1 e

pub uses_found : UsesAreFound
unfolding use_at
uses_found j i u read e =
    found (λ a b. same_place (at_of a) (at_of b)) use_before own_place other_place (uses_by j) i u
    (uses_in_order j.names.dropped j.objects read) e

-- ---- what is of a section stands together

none_kept : {A : Type 0} (p : A → Bool) (xs : List A) → AllByRecursion (λ x. p x ≡ false) xs
    → filter p xs ≡ []
none_kept p [] h = refl
none_kept p (x ∷ xs) h = ap (λ b. cond b (x ∷ filter p xs) (filter p xs)) h.0 ∙ none_kept p xs h.1

module _ {A : Type 0} (order : A → A → Bool) (q p : A → Bool)
    (q_first : (x y : A) → order x y ≡ true → q x ≡ false → q y ≡ false)
    (p_first : (x y : A) → order x y ≡ true → q x ≡ false → p x ≡ false → p y ≡ false)
    (not_both : (x : A) → q x ≡ true → p x ≡ false) where
  abbrev run_in : List A → List A
  run_in xs = take (length (filter p xs)) (drop (length (filter q xs)) xs)

  -- by the tests of the first item
  run_by : (x : A) (xs : List A) (b c : Bool) → q x ≡ b → p x ≡ c
      → AllByRecursion (λ y. order x y ≡ true) xs → filter p xs ≡ run_in xs
      → cond c (x ∷ filter p xs) (filter p xs)
      ≡ take (length (cond c (x ∷ filter p xs) (filter p xs)))
      (drop (length (cond b (x ∷ filter q xs) (filter q xs))) (x ∷ xs))
  run_by x xs true true e f h ih = let no = not_both x e in absurd (cc)
  run_by x xs true false e f h ih = ih
  run_by x xs false true e f h ih =
      let none = none_kept q xs (all_weaker (λ y. order x y ≡ true) (λ y. q y ≡ false)
      (λ y less. q_first x y less e) xs h) in
      let start : run_in xs ≡ take (length (filter p xs)) xs =
      ap (λ ys. take (length (filter p xs)) (drop (length ys) xs)) none in
      ap (λ ys. x ∷ ys) (ih ∙ start) ∙ sym
      (ap (λ ys. take (length (x ∷ filter p xs)) (drop (length ys) (x ∷ xs))) none)
  run_by x xs false false e f h ih =
      let none = none_kept p xs (all_weaker (λ y. order x y ≡ true) (λ y. p y ≡ false)
      (λ y less. p_first x y less e f) xs h) in
      none ∙ sym (ap (λ ys. take (length ys) (drop (length (filter q xs)) (x ∷ xs))) none)

  pub run_of : (xs : List A) → Ascends order xs → filter p xs ≡ run_in xs
  run_of [] a = refl
  run_of (x ∷ xs) a = run_by x xs (q x) (p x) refl refl a.0 (run_of xs a.1)

module _ (object section : ℕ) where
  pub not_before : (a b : At) → at_before a b ≡ true → is_before object section a ≡ false
      → is_before object section b ≡ false
  not_before a b h e = grind (arith, nat_tests)

  pub not_of : (a b : At) → at_before a b ≡ true → is_before object section a ≡ false
      → is_of object section a ≡ false → is_of object section b ≡ false
  not_of a b h e f = grind (arith, nat_tests)

  pub either : (a : At) → is_before object section a ≡ true → is_of object section a ≡ false
  either a e = grind (arith, nat_tests)

  pub section_run : (us : List Use) → Ascends use_before us
      → filter (λ u. is_of object section (at_of u)) us
      ≡ take (count_of object section us) (drop (count_before object section us) us)
  section_run us a =
      run_of use_before (λ u. is_before object section (at_of u)) (λ u. is_of object section (at_of u))
      (λ x y. not_before (at_of x) (at_of y)) (λ x y. not_of (at_of x) (at_of y))
      (λ x. either (at_of x)) us a

pub sections_runs : SectionsAreRuns
unfolding uses_at
sections_runs j object section read =
    section_run object section (uses_by j) (uses_in_order j.names.dropped j.objects read)
