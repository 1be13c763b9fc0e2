-- A loop over borrowed values that looks for the first one that passes a test.
use Rattle.std.proofs.Common.{◌≡◌, ℕ, ◌+◌, ◌<◌, ◌≤◌, Bool, true, false, cond, List, map, length, get_or, drop, Option, Some, None, sym, ap, ◌∙◌}
use Rattle.std.specs.List.{find}
use Rattle.std.proofs.lemmas.List.{at_drop_more, drop_all}
use denote.Ref.{Bor}

module _ {A : Type 0} (p : A → Bool) where
  -- the first from a place on
  abbrev pub first_from : ℕ → List (Bor A) → Option A
  first_from i xs = find p (map (λ x. x.now) (drop i xs))

  first_more : (xs : List (Bor A)) (i : ℕ) (d : Bor A) → i < length xs → first_from i xs ≡ cond (p (get_or xs i d).now) (Some (get_or xs i d).now) (first_from (i + 1) xs)
  first_more xs i d h =
      let F : List (Bor A) → Option A = λ ys. find p (map (λ y. y.now) ys) in at_drop_more F xs i d h

  pub first_here : (xs : List (Bor A)) (i : ℕ) (d : Bor A) (all : Option A) → i < length xs → p (get_or xs i d).now ≡ true → first_from i xs ≡ all → Some (get_or xs i d).now ≡ all
  first_here xs i d all h is so_far =
      sym (first_more xs i d h ∙ ap (λ b. cond b (Some (get_or xs i d).now) (first_from (i + 1) xs)) is) ∙ so_far

  pub first_later : (xs : List (Bor A)) (i : ℕ) (d : Bor A) (all : Option A) → i < length xs → p (get_or xs i d).now ≡ false → first_from i xs ≡ all → first_from (i + 1) xs ≡ all
  first_later xs i d all h is so_far =
      sym (first_more xs i d h ∙ ap (λ b. cond b (Some (get_or xs i d).now) (first_from (i + 1) xs)) is) ∙ so_far

  pub first_end : (xs : List (Bor A)) (i : ℕ) (all : Option A) → length xs ≤ i → first_from i xs ≡ all → None ≡ all
  first_end xs i all h so_far = sym (ap (λ ys. find p (map (λ y. y.now) ys)) (drop_all i xs h)) ∙ so_far
