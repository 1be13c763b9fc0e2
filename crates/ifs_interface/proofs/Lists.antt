-- Lists: tests of all elements, filters, and the front that passes a test.
use Rattle.std.proofs.Common.{◌≡◌, ◌+◌, Bool, true, false, cond, ◌||◌, List, [], ◌∷◌, map, refl, ap, ◌∙◌}
use Rattle.std.specs.List.{list_all, list_any, filter, prefix_len}
use Rattle.std.proofs.lemmas.Bool.{and_parts}

pub filter_all : {X : Type 0} (p : X → Bool) (xs : List X) → list_all p xs ≡ true → filter p xs ≡ xs
filter_all p [] h = refl
filter_all p (x ∷ xs) h =
    let parts = and_parts (p x) (list_all p xs) h in
    ap (λ t. cond t (x ∷ filter p xs) (filter p xs)) parts.0 ∙ ap (λ ys. x ∷ ys) (filter_all p xs parts.1)

-- where none passes
pub filter_none : {X : Type 0} (p q : X → Bool) → ((x : X) → q x ≡ true → p x ≡ false) → (xs : List X) → list_all q xs ≡ true → filter p xs ≡ []
filter_none p q h [] g = refl
filter_none p q h (x ∷ xs) g =
    let parts = and_parts (q x) (list_all q xs) g in
    ap (λ t. cond t (x ∷ filter p xs) (filter p xs)) (h x parts.0) ∙ filter_none p q h xs parts.1

pub any_none : {X : Type 0} (p q : X → Bool) → ((x : X) → q x ≡ true → p x ≡ false) → (xs : List X) → list_all q xs ≡ true → list_any p xs ≡ false
any_none p q h [] g = refl
any_none p q h (x ∷ xs) g =
    let parts = and_parts (q x) (list_all q xs) g in
    ap (λ t. t || list_any p xs) (h x parts.0) ∙ any_none p q h xs parts.1

-- two functions that agree wherever a test passes
pub map_agree : {X Y : Type 0} (f g : X → Y) (p : X → Bool) → ((x : X) → p x ≡ true → f x ≡ g x) → (xs : List X) → list_all p xs ≡ true → map f xs ≡ map g xs
map_agree f g p h [] e = refl
map_agree f g p h (x ∷ xs) e =
    let parts = and_parts (p x) (list_all p xs) e in
    ap (λ y. y ∷ map f xs) (h x parts.0) ∙ ap (λ ys. g x ∷ ys) (map_agree f g p h xs parts.1)

pub map_map : {X Y Z : Type 0} (f : Y → Z) (g : X → Y) (xs : List X) → map f (map g xs) ≡ map (λ x. f (g x)) xs
map_map f g [] = refl
map_map f g (x ∷ xs) = ap (λ ys. f (g x) ∷ ys) (map_map f g xs)

pub map_itself : {X : Type 0} (f : X → X) → ((x : X) → f x ≡ x) → (xs : List X) → map f xs ≡ xs
map_itself f h [] = refl
map_itself f h (x ∷ xs) = ap (λ y. y ∷ map f xs) (h x) ∙ ap (λ ys. x ∷ ys) (map_itself f h xs)

pub filter_map_of : {X Y : Type 0} (p : Y → Bool) (f : X → Y) (xs : List X) → filter p (map f xs) ≡ map f (filter (λ x. p (f x)) xs)
filter_map_of p f [] = refl
filter_map_of p f (x ∷ xs) =
    let rest = filter_map_of p f xs in
    elim (p (f x)) as (λ t. cond t (f x ∷ filter p (map f xs)) (filter p (map f xs)) ≡ map f (cond t (x ∷ filter (λ z. p (f z)) xs) (filter (λ z. p (f z)) xs)))
    [ true ↦ ap (λ ys. f x ∷ ys) rest | false ↦ rest ]

pub any_map_of : {X Y : Type 0} (p : Y → Bool) (f : X → Y) (xs : List X) → list_any p (map f xs) ≡ list_any (λ x. p (f x)) xs
any_map_of p f [] = refl
any_map_of p f (x ∷ xs) = ap (λ t. p (f x) || t) (any_map_of p f xs)

pub prefix_len_map_of : {X Y : Type 0} (p : Y → Bool) (f : X → Y) (xs : List X) → prefix_len p (map f xs) ≡ prefix_len (λ x. p (f x)) xs
prefix_len_map_of p f [] = refl
prefix_len_map_of p f (x ∷ xs) = ap (λ n. cond (p (f x)) (1 + n) 0) (prefix_len_map_of p f xs)

-- whether a list has an element
abbrev pub has_some : {X : Type 0} → List X → Bool
has_some [] = false
has_some (x ∷ xs) = true

pub any_by_filter : {X : Type 0} (p : X → Bool) (xs : List X) → list_any p xs ≡ has_some (filter p xs)
any_by_filter p [] = refl
any_by_filter p (x ∷ xs) =
    let rest = any_by_filter p xs in
    elim (p x) as (λ t. (t || list_any p xs) ≡ has_some (cond t (x ∷ filter p xs) (filter p xs)))
    [ true ↦ refl | false ↦ rest ]
