-- A list of which each item is kept once has no item twice.
use Rattle.std.proofs.Common.{◌≡◌, Bool, true, false, not, List, [], ◌∷◌, filter, refl, if◌then◌else◌}
use Rattle.std.specs.List.{AllByRecursion, IsDistinct}
use Rattle.link_core.specs.Lists.{once}

module _ {A : Type 0} (same : A → A → Bool) where
  -- what is filtered out leaves what holds of all
  all_by : (P : A → Type 0) (test : Bool) (y : A) (ys : List A) → P y → AllByRecursion P ys → AllByRecursion P (if test then y ∷ ys else ys)
  all_by P true y ys h hs = (h, hs)
  all_by P false y ys h hs = hs

  all_filtered : (P : A → Type 0) (p : A → Bool) (ys : List A) → AllByRecursion P ys → AllByRecursion P (filter p ys)
  all_filtered P p [] h = tt
  all_filtered P p (y ∷ ys) h = all_by P (p y) y (filter p ys) h.0 (all_filtered P p ys h.1)

  apart_by : (x y : A) (test : Bool) (ys : List A) → same x y ≡ test → AllByRecursion (λ z. same x z ≡ false) ys → AllByRecursion (λ z. same x z ≡ false) (if not test then y ∷ ys else ys)
  apart_by x y true ys e h = h
  apart_by x y false ys e h = (e, h)

  -- what isn't the same as an item is apart from it
  apart : (x : A) (ys : List A) → AllByRecursion (λ z. same x z ≡ false) (filter (λ y. not (same x y)) ys)
  apart x [] = tt
  apart x (y ∷ ys) = apart_by x y (same x y) (filter (λ y. not (same x y)) ys) refl (apart x ys)

  distinct_by : (test : Bool) (y : A) (ys : List A) → AllByRecursion (λ z. same y z ≡ false) ys → IsDistinct same ys → IsDistinct same (if test then y ∷ ys else ys)
  unfolding IsDistinct
  distinct_by true y ys h d = (h, d)
  distinct_by false y ys h d = d

  distinct_filtered : (p : A → Bool) (ys : List A) → IsDistinct same ys → IsDistinct same (filter p ys)
  unfolding IsDistinct
  distinct_filtered p [] d = tt
  distinct_filtered p (y ∷ ys) d =
      distinct_by (p y) y (filter p ys) (all_filtered (λ z. same y z ≡ false) p ys d.0) (distinct_filtered p ys d.1)

  pub once_distinct : (xs : List A) → IsDistinct same (once same xs)
  unfolding IsDistinct
  once_distinct [] = tt
  once_distinct (x ∷ xs) = (apart x (once same xs), distinct_filtered (λ y. not (same x y)) (once same xs) (once_distinct xs))
