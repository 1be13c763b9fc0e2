-- Lists that keep some elements.
use Rattle.std.proofs.Common.{◌≡◌, Bool, true, false, cond, List, [], ◌∷◌, ◌++◌, map, filter, refl, ap}
use Rattle.std.specs.List.{flat_map}

-- keeping some elements is putting nothing in place of the others
pub kept_is_flat_map : {X Y : Type 0} (f : X → Y) (p : X → Bool) (xs : List X) → flat_map (λ x. cond (p x) (f x ∷ []) []) xs ≡ map f (filter p xs)
kept_is_flat_map f p [] = refl
kept_is_flat_map f p (x ∷ xs) =
    elim (p x) as (λ t. (cond t (f x ∷ []) [] ++ flat_map (λ y. cond (p y) (f y ∷ []) []) xs) ≡ map f (cond t (x ∷ filter p xs) (filter p xs))) [
      | true ↦ ap (λ ys. f x ∷ ys) (kept_is_flat_map f p xs)
      | false ↦ kept_is_flat_map f p xs
    ]
