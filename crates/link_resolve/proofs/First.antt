-- The first answer that an item of a list gives.
use Rattle.std.proofs.Common.{◌≡◌, Bool, true, false, List, [], ◌∷◌, map, filter_map, slice_get, Option, Some, None, refl, ap, sym, ◌∙◌}
use Rattle.std.specs.List.{list_all, cons_option}
use Rattle.std.specs.Option.{option_map, option_map_or}
use Rattle.link_core.specs.Lists.{first_some}
use Rattle.ifs_interface.proofs.Lists.{map_agree}
use Rattle.link_binding.proofs.Libraries.{filter_map_through}

-- items by way of others
pub first_through : {X Y Z : Type 0} (f : Y → Option Z) (g : X → Y) (xs : List X) → first_some f (map g xs) ≡ first_some (λ x. f (g x)) xs
first_through f g xs = ap (λ ys. slice_get ys 0) (filter_map_through f g xs)

-- those that agree on all items of a list
pub first_agree : {X Y : Type 0} (f g : X → Option Y) (p : X → Bool) → ((x : X) → p x ≡ true → f x ≡ g x) → (xs : List X)
    → list_all p xs ≡ true → first_some f xs ≡ first_some g xs
first_agree f g p h xs all =
    sym (first_through (λ o. o) f xs) ∙ ap (λ answers. first_some (λ o. o) answers) (map_agree f g p h xs all) ∙ first_through (λ o. o) g xs

-- what is made of the first answer
made_first : {Y Z : Type 0} (make : Y → Z) (o : Option Y) (ys : List Y) (zs : List Z) → slice_get zs 0 ≡ option_map make (slice_get ys 0)
    → slice_get (cons_option (option_map make o) zs) 0 ≡ option_map make (slice_get (cons_option o ys) 0)
made_first make None ys zs e = e
made_first make (Some y) ys zs e = refl

pub first_made : {X Y Z : Type 0} (make : Y → Z) (g : X → Option Y) (xs : List X) → first_some (λ x. option_map make (g x)) xs ≡ option_map make (first_some g xs)
first_made make g [] = refl
first_made make g (x ∷ xs) =
    made_first make (g x) (filter_map g xs) (filter_map (λ x. option_map make (g x)) xs) (first_made make g xs)

-- no item gives an answer
pub first_none : {X Y : Type 0} (xs : List X) → first_some {A = X} {B = Y} (λ x. None) xs ≡ None
first_none [] = refl
first_none (x ∷ xs) = first_none xs

-- a test that no answer passes
failing : {Y : Type 0} (test : Y → Bool) (o : Option Y) (ys : List Y) → option_map_or test o false ≡ false
    → option_map_or test (slice_get ys 0) false ≡ false → option_map_or test (slice_get (cons_option o ys) 0) false ≡ false
failing test None ys e rest = rest
failing test (Some y) ys e rest = e

pub first_fails : {X Y : Type 0} (test : Y → Bool) (f : X → Option Y) → ((x : X) → option_map_or test (f x) false ≡ false) → (xs : List X)
    → option_map_or test (first_some f xs) false ≡ false
first_fails test f h [] = refl
first_fails test f h (x ∷ xs) = failing test (f x) (filter_map f xs) (h x) (first_fails test f h xs)
