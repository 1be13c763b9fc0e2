-- Where things end that stand one after the other, in 128 bits.
use Rattle.std.proofs.Common.{◌≡◌, ℕ, ◌+◌, ◌-◌, ◌≤◌, ◌^◌, List, [], ◌∷◌, ap, sym, ◌∙◌, arith, ◌⊎◌, inl, inr}
use Rattle.std.proofs.lemmas.Bool.{cases_lt}
use Rattle.std.proofs.Math.Nat.{min-eq_left, min-eq_right}
use Rattle.link_core.specs.Aligned.{aligned, end_from}
use Rattle.link_tables.proofs.Multiples.{aligned_is_behind}
use Rattle.link_tables.specs.Capped.{capped}

module _ {X : Type 0} (align size : X → ℕ) where
  pub end_is_behind : (at : ℕ) (xs : List X) → at ≤ end_from align size at xs
  unfolding end_from
  end_is_behind at [] = omega arith
  end_is_behind at (x ∷ xs) =
      omega (arith, aligned_is_behind (align x) at, end_is_behind (aligned (align x) at + size x) xs)

  compared : (n m : ℕ) → (n ≤ m) ⊎ (m ≤ n)
  compared n m = elim (cases_lt n m) [ inl h ↦ inl (omega arith) | inr h ↦ inr h ]

  by_size : (at : ℕ) (xs : List X) → at ≤ end_from align size at xs → capped at ≤ end_from align size (capped at) xs → (at ≤ 2 ^ 128 - 1) ⊎ (2 ^ 128 - 1 ≤ at) → capped (end_from align size (capped at) xs) ≡ capped (end_from align size at xs)
  by_size at xs one other (inl small) = ap (λ (n : ℕ). capped (end_from align size n xs)) (min-eq_left small)
  by_size at xs one other (inr great) =
      let c : capped at ≡ 2 ^ 128 - 1 = min-eq_right great in
      let o : 2 ^ 128 - 1 ≤ end_from align size (capped at) xs = omega (arith, c, other) in
      let n : 2 ^ 128 - 1 ≤ end_from align size at xs = omega (arith, one, great) in
      min-eq_right o ∙ sym (min-eq_right n)

  -- a start above 2^128 - 1 counts as that
  pub end_from_capped : (at : ℕ) (xs : List X) → capped (end_from align size (capped at) xs) ≡ capped (end_from align size at xs)
  end_from_capped at xs =
      by_size at xs (end_is_behind at xs) (end_is_behind (capped at) xs) (compared at (2 ^ 128 - 1))

  -- a thing at its place, and what is behind it
  pub end_turn :
      (at placed new : ℕ) (x : X) (xs : List X) → placed ≡ capped (aligned (align x) at) → new ≡ capped (placed + size x)
      → capped (end_from align size new xs) ≡ capped (end_from align size at (x ∷ xs))
  unfolding end_from
  end_turn at placed new x xs here next =
      let n : new ≡ capped (aligned (align x) at + size x) = omega (arith, here, next) in
      ap (λ (k : ℕ). capped (end_from align size k xs)) n ∙ end_from_capped (aligned (align x) at + size x) xs
