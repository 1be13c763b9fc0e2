-- Documents with which nothing is wrong, one by one.
use Rattle.std.proofs.Common.{◌≡◌, ℕ, zero, suc, ◌<◌, List, [], ◌∷◌, length, get_or, Option, None, ap, ◌∙◌, arith}
use Rattle.yaml_maps.specs.Maps.{first_of}
use Rattle.tbd_v4_read.proofs.Gathered.{option_or_none}

module _ {X Y : Type 0} (f : X → Option Y) where
  pub first_right : (x : X) (xs : List X) → first_of f (x ∷ xs) ≡ None → f x ≡ None
  first_right x xs none = (option_or_none (f x) (first_of f xs) none).0

  pub others_right : (x : X) (xs : List X) → first_of f (x ∷ xs) ≡ None → first_of f xs ≡ None
  others_right x xs none = (option_or_none (f x) (first_of f xs) none).1

  each_at : (xs : List X) (i : ℕ) (d : X) → first_of f xs ≡ None → i < length xs → f (get_or xs i d) ≡ None
  each_at [] i d none within = absurd (omega arith)
  each_at (x ∷ xs) zero d none within = first_right x xs none
  each_at (x ∷ xs) (suc i) d none within = let lt : i < length xs = omega arith in each_at xs i d (others_right x xs none) lt

  pub each_right : (xs : List X) (i : ℕ) (x : X) → first_of f xs ≡ None → i < length xs → x ≡ get_or xs i x → f x ≡ None
  each_right xs i x none within is = ap f is ∙ each_at xs i x none within
