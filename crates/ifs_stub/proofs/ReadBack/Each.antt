-- What is asked of values by their places is asked of the list of them.
use Rattle.std.proofs.Common.{◌≡◌, ℕ, zero, suc, ◌+◌, Bool, true, false, cond, ◌||◌, List, [], ◌∷◌, ◌++◌, length, map, Option, Some, None, refl, sym, ap, ◌∙◌, arith}
use Rattle.std.specs.Prelude.{option_map}
use Rattle.std.specs.List.{find, filter_map, cons_option, range_with_len, sum_by, count_by, list_any}
use Rattle.std.proofs.lemmas.List.Sums.{sum_by-cons}
use Rattle.std.proofs.lemmas.Bool.{false≢true}

pub or_parts : (a b : Bool) → (a || b) ≡ false → (a ≡ false) × (b ≡ false)
or_parts false false h = (refl, refl)
or_parts false true h = absurd (false≢true (sym h))
or_parts true b h = absurd (false≢true (sym h))

module _ {I X : Type 0} (f : I → X) where
  pub find_each : (p : X → Bool) (places : List I) → option_map f (find (λ i. p (f i)) places) ≡ find p (map f places)
  find_each p [] = refl
  find_each p (i ∷ is) =
      let rest = find_each p is in
      elim (p (f i)) as (λ b. option_map f (cond b (Some i) (find (λ j. p (f j)) is)) ≡ cond b (Some (f i)) (find p (map f is)))
      [ true ↦ refl | false ↦ rest ]

  pub filter_map_each : {Y : Type 0} (g : X → Option Y) (places : List I) → filter_map (λ i. g (f i)) places ≡ filter_map g (map f places)
  filter_map_each g [] = refl
  filter_map_each g (i ∷ is) = ap (cons_option (g (f i))) (filter_map_each g is)

  pub sum_each : (g : X → ℕ) (places : List I) → sum_by (λ i. g (f i)) places ≡ sum_by g (map f places)
  sum_each g [] = refl
  sum_each g (i ∷ is) =
      sum_by-cons (λ j. g (f j)) i is ∙ ap (λ n. g (f i) + n) (sum_each g is) ∙ sym (sum_by-cons g (f i) (map f is))

  pub count_each : (p : X → Bool) (places : List I) → count_by (λ i. p (f i)) places ≡ count_by p (map f places)
  count_each p places = sum_each (λ x. cond (p x) 1 0) places

  -- what is asked of a place is never more than what is asked of the value there
  pub none_each : (p : X → Bool) (q : I → Bool) → ((i : I) → q i ≡ true → p (f i) ≡ true) → (places : List I) → list_any p (map f places) ≡ false → find q places ≡ None
  none_each p q more [] none = refl
  none_each p q more (i ∷ is) none =
      let parts = or_parts (p (f i)) (list_any p (map f is)) none in
      by (q i) refl parts.0 (none_each p q more is parts.1)
    where
      by : (b : Bool) → q i ≡ b → p (f i) ≡ false → find q is ≡ None → cond b (Some i) (find q is) ≡ None
      by true e fails rest = absurd (false≢true (sym fails ∙ more i e))
      by false e fails rest = rest

-- the first that passes stands behind those that don't
pub first_behind : {X : Type 0} (p : X → Bool) (f : ℕ → X) (k n : ℕ) (front : List X) (y : X) (rest : List X) → map f (range_with_len k n) ≡ front ++ y ∷ rest → list_any p front ≡ false → p y ≡ true → find (λ i. p (f i)) (range_with_len k n) ≡ Some (k + length front)
first_behind p f k zero [] y rest e none here = absurd (cc)
first_behind p f k zero (x ∷ xs) y rest e none here = absurd (cc)
first_behind p f k (suc n) [] y rest e none here =
    let same : f k ≡ y = cc in
    let none_before : k ≡ k + 0 = omega arith in
    ap (λ b. cond b (Some k) (find (λ i. p (f i)) (range_with_len (k + 1) n))) (ap p same ∙ here) ∙ ap (λ i. Some i) none_before
first_behind p f k (suc n) (x ∷ xs) y rest e none here =
    let same : f k ≡ x = cc in
    let others : map f (range_with_len (k + 1) n) ≡ xs ++ y ∷ rest = cc in
    let fails = or_parts (p x) (list_any p xs) none in
    let moved : k + 1 + length xs ≡ k + suc (length xs) = omega arith in
    ap (λ b. cond b (Some k) (find (λ i. p (f i)) (range_with_len (k + 1) n))) (ap p same ∙ fails.0)
    ∙ first_behind p f (k + 1) n xs y rest others fails.1 here ∙ ap (λ i. Some i) moved
