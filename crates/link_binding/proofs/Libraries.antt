-- Loops over libraries.
use Rattle.std.proofs.Common.{◌≡◌, ℕ, ◌+◌, ◌<◌, ◌≤◌, Bool, true, false, ◌||◌, List, [], ◌∷◌, ◌++◌, length, get_or, drop, map, Option, Some, None, refl, sym, ap, ◌∙◌, append_assoc}
use Rattle.std.specs.List.{enumerate_from, filter_map, cons_option, slice_get, list_any}
use Rattle.std.specs.Option.{option_or, option_to_list}
use Rattle.std.proofs.lemmas.List.{at_drop_more, drop_all, append-nil}
use Rattle.link_core.specs.Lists.{first_some}

first_by : {Y : Type 0} (o : Option Y) (ys : List Y) → slice_get (cons_option o ys) 0 ≡ option_or o (slice_get ys 0)
first_by None ys = refl
first_by (Some y) ys = refl

module _ {X Y Z : Type 0} (g : X → Y) (f : ℕ × Y → Option Z) where
  -- the first answer, from a place on
  abbrev pub first_from : ℕ → List X → Option Z
  first_from i xs = first_some f (enumerate_from i (map g xs))

  pub first_more : (xs : List X) (i : ℕ) (x : X) → i < length xs → x ≡ get_or xs i x → first_from i (drop i xs) ≡ option_or (f (i, g x)) (first_from (i + 1) (drop (i + 1) xs))
  first_more xs i x h e =
      at_drop_more (first_from i) xs i x h ∙ ap (λ y. first_from i (y ∷ drop (i + 1) xs)) (sym e) ∙ first_by (f (i, g x)) (filter_map f (enumerate_from (i + 1) (map g (drop (i + 1) xs))))

  pub first_end : (xs : List X) (i : ℕ) → length xs ≤ i → first_from i (drop i xs) ≡ None
  first_end xs i h = ap (first_from i) (drop_all i xs h)

-- one more of what filter_map gives
front_by : {Y : Type 0} (o : Option Y) (ys : List Y) → cons_option o ys ≡ option_to_list o ++ ys
front_by None ys = refl
front_by (Some y) ys = refl

module _ {X Y : Type 0} (f : X → Option Y) where
  pub filter_map_more : (xs : List X) (i : ℕ) (x : X) (old new all : List Y) → i < length xs → x ≡ get_or xs i x → new ≡ old ++ option_to_list (f x) → old ++ filter_map f (drop i xs) ≡ all → new ++ filter_map f (drop (i + 1) xs) ≡ all
  filter_map_more xs i x old new all h e pushed so_far =
      ap (λ ys. ys ++ filter_map f (drop (i + 1) xs)) pushed
      ∙ append_assoc old (option_to_list (f x)) (filter_map f (drop (i + 1) xs))
      ∙ ap (λ ys. old ++ ys) (sym (at_drop_more (filter_map f) xs i x h ∙ ap (λ y. filter_map f (y ∷ drop (i + 1) xs)) (sym e) ∙ front_by (f x) (filter_map f (drop (i + 1) xs))))
      ∙ so_far

  pub filter_map_end : (xs : List X) (i : ℕ) (old : List Y) → length xs ≤ i → old ++ filter_map f (drop i xs) ≡ old
  filter_map_end xs i old h = ap (λ ys. old ++ filter_map f ys) (drop_all i xs h) ∙ append-nil old

pub any_more : {X : Type 0} (p : X → Bool) (xs : List X) (i : ℕ) (x : X) → i < length xs → x ≡ get_or xs i x → list_any p (drop i xs) ≡ (p x || list_any p (drop (i + 1) xs))
any_more p xs i x h e = at_drop_more (list_any p) xs i x h ∙ ap (λ y. p y || list_any p (drop (i + 1) xs)) (sym e)

pub any_end : {X : Type 0} (p : X → Bool) (xs : List X) (i : ℕ) → length xs ≤ i → list_any p (drop i xs) ≡ false
any_end p xs i h = ap (list_any p) (drop_all i xs h)

-- an answer through a function
pub any_through : {X Y : Type 0} (p : Y → Bool) (g : X → Y) (xs : List X) → list_any p (map g xs) ≡ list_any (λ x. p (g x)) xs
any_through p g [] = refl
any_through p g (x ∷ xs) = ap (λ t. p (g x) || t) (any_through p g xs)

pub filter_map_through : {X Y Z : Type 0} (f : Y → Option Z) (g : X → Y) (xs : List X) → filter_map f (map g xs) ≡ filter_map (λ x. f (g x)) xs
filter_map_through f g [] = refl
filter_map_through f g (x ∷ xs) = ap (cons_option (f (g x))) (filter_map_through f g xs)

-- what stands at a place passes a test
pub any_found : {X Y : Type 0} (p : Y → Bool) (g : X → Y) (xs : List X) (i : ℕ) (x : X) → i < length xs → x ≡ get_or xs i x → p (g x) ≡ true → list_any (λ y. p (g y)) (drop i xs) ≡ list_any (λ y. p (g y)) xs → true ≡ list_any p (map g xs)
any_found p g xs i x h e t so_far =
    sym (any_through p g xs ∙ sym so_far ∙ any_more (λ y. p (g y)) xs i x h e ∙ ap (λ b. b || list_any (λ y. p (g y)) (drop (i + 1) xs)) t)

-- nothing does
pub any_missing : {X Y : Type 0} (p : Y → Bool) (g : X → Y) (xs : List X) (i : ℕ) → length xs ≤ i → list_any (λ y. p (g y)) (drop i xs) ≡ list_any (λ y. p (g y)) xs → false ≡ list_any p (map g xs)
any_missing p g xs i h so_far = sym (any_through p g xs ∙ sym so_far ∙ any_end (λ y. p (g y)) xs i h)

-- all was done
pub filter_map_done : {X Y Z : Type 0} (f : Y → Option Z) (g : X → Y) (xs : List X) (i : ℕ) (done : List Z) → length xs ≤ i → done ++ filter_map (λ x. f (g x)) (drop i xs) ≡ filter_map (λ x. f (g x)) xs → done ≡ filter_map f (map g xs)
filter_map_done f g xs i done h so_far =
    sym (filter_map_end (λ x. f (g x)) xs i done h) ∙ so_far ∙ sym (filter_map_through f g xs)
