-- A loop for the greatest number of those that pass a test.
use Rattle.std.proofs.Common.{◌≡◌, ℕ, ◌+◌, ◌<◌, ◌≤◌, Bool, true, false, cond, List, [], ◌∷◌, length, get_or, drop, map, filter, max, fold, refl, sym, ap, ◌∙◌}
use Rattle.std.proofs.lemmas.List.{at_drop_more, drop_all}

module _ {X : Type 0} (p : X → Bool) (f : X → ℕ) where
  -- the greatest of a number and of those that pass
  abbrev pub greatest_of : ℕ → List X → ℕ
  greatest_of n xs = fold max n (map f (filter p xs))

  pub at_first : (xs : List X) (i : ℕ) (n : ℕ) (x : X) → i < length xs → x ≡ get_or xs i x → greatest_of n (drop i xs) ≡ greatest_of n (x ∷ drop (i + 1) xs)
  at_first xs i n x h e = at_drop_more (greatest_of n) xs i x h ∙ ap (λ y. greatest_of n (y ∷ drop (i + 1) xs)) (sym e)

  pub greatest_more : (xs : List X) (i n m : ℕ) (x : X) → i < length xs → x ≡ get_or xs i x → p x ≡ true → m ≡ max n (f x) → greatest_of n (drop i xs) ≡ greatest_of m (drop (i + 1) xs)
  greatest_more xs i n m x h e t g =
      at_first xs i n x h e ∙ ap (λ b. fold max n (map f (cond b (x ∷ filter p (drop (i + 1) xs)) (filter p (drop (i + 1) xs))))) t
      ∙ ap (λ k. greatest_of k (drop (i + 1) xs)) (sym g)

  pub greatest_less : (xs : List X) (i n : ℕ) (x : X) → i < length xs → x ≡ get_or xs i x → p x ≡ false → greatest_of n (drop i xs) ≡ greatest_of n (drop (i + 1) xs)
  greatest_less xs i n x h e t =
      at_first xs i n x h e ∙ ap (λ b. fold max n (map f (cond b (x ∷ filter p (drop (i + 1) xs)) (filter p (drop (i + 1) xs))))) t

  pub greatest_end : (xs : List X) (i n : ℕ) → length xs ≤ i → greatest_of n (drop i xs) ≡ n
  greatest_end xs i n h = ap (greatest_of n) (drop_all i xs h)
