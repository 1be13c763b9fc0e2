-- Lists one after the other, each with the number of its place, ascend.
use Rattle.std.proofs.Common.{◌≡◌, ℕ, suc, zero, ◌+◌, ◌<◌, Bool, true, List, [], ◌∷◌, arith}
use Rattle.std.proofs.lemmas.Bool.{lt-ltb, ltb-true}
use Rattle.std.specs.Prelude.{nat_lt}
use Rattle.std.specs.List.{AllByRecursion, enumerate_from, flat_map, range_with_len}
use Rattle.link_order.specs.Order.{Ascends}
use Rattle.link_order.proofs.Ascending.{all_append, all_weaker, ascends_append}

module _ {K A : Type 0} (f : K → List A) (number : K → ℕ) (key : A → ℕ) (before : A → A → Bool)
    (lower : (a b : A) → key a < key b → before a b ≡ true) where
  -- all that a place gives has its number, and ascends
  pub record Gives (k : K) : Type 0 where
    pub numbered : AllByRecursion (λ a. key a ≡ number k) (f k)
    pub ascends : Ascends before (f k)

  above : (n : ℕ) (ks : List K) → AllByRecursion (λ k. n < number k) ks → AllByRecursion Gives ks
      → AllByRecursion (λ a. n < key a) (flat_map f ks)
  above n [] h g = tt
  above n (k ∷ ks) h g =
      let here : AllByRecursion (λ a. n < key a) (f k) =
      all_weaker (λ a. key a ≡ number k) (λ a. n < key a) (λ a e. omega (arith, e, h.0)) (f k) g.0.numbered in
      all_append (λ a. n < key a) (f k) (flat_map f ks) here (above n ks h.1 g.1)

  apart : (k : K) (ys : List A) → AllByRecursion (λ a. number k < key a) ys → (a : A) → key a ≡ number k
      → AllByRecursion (λ b. before a b ≡ true) ys
  apart k ys h a e = all_weaker (λ b. number k < key b) (λ b. before a b ≡ true)
      (λ b less. lower a b (omega (arith, e, less))) ys h

  pub flat_ascends : (ks : List K) → AllByRecursion Gives ks
      → Ascends (λ a b. nat_lt (number a) (number b)) ks → Ascends before (flat_map f ks)
  flat_ascends [] g h = tt
  flat_ascends (k ∷ ks) g h =
      let higher : AllByRecursion (λ b. number k < number b) ks =
      all_weaker (λ b. nat_lt (number k) (number b) ≡ true) (λ b. number k < number b)
      (λ b e. ltb-true (number k) (number b) e) ks h.0 in
      let behind = above (number k) ks higher g.1 in
      let front = all_weaker (λ a. key a ≡ number k)
      (λ a. AllByRecursion (λ b. before a b ≡ true) (flat_map f ks)) (apart k (flat_map f ks) behind)
      (f k) g.0.numbered in
      ascends_append before (f k) (flat_map f ks) g.0.ascends (flat_ascends ks g.1 h.1) front

-- ---- places, and items with their places

lt-nat_lt : (a b : ℕ) → a < b → nat_lt a b ≡ true
lt-nat_lt a b h = lt-ltb a b h

range_above : (m i n : ℕ) → m < i → AllByRecursion (λ k. nat_lt m k ≡ true) (range_with_len i n)
range_above m i zero h = tt
range_above m i (suc n) h = (lt-nat_lt m i h, range_above m (i + 1) n (omega (arith, h)))

pub range_ascends : (i n : ℕ) → Ascends nat_lt (range_with_len i n)
range_ascends i zero = tt
range_ascends i (suc n) = (range_above i (i + 1) n (omega arith), range_ascends (i + 1) n)

module _ {X : Type 0} where
  enumerate_above : (m i : ℕ) (xs : List X) → m < i
      → AllByRecursion (λ k. nat_lt m k.0 ≡ true) (enumerate_from i xs)
  enumerate_above m i [] h = tt
  enumerate_above m i (x ∷ xs) h = (lt-nat_lt m i h, enumerate_above m (i + 1) xs (omega (arith, h)))

  pub enumerate_ascends : (i : ℕ) (xs : List X) → Ascends (λ a b. nat_lt a.0 b.0) (enumerate_from i xs)
  enumerate_ascends i [] = tt
  enumerate_ascends i (x ∷ xs) = (enumerate_above i (i + 1) xs (omega arith), enumerate_ascends (i + 1) xs)
