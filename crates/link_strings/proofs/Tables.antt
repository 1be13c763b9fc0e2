-- String tables: a string more, and all of them; where each starts.
use Rattle.std.proofs.Common.{◌≡◌, ℕ, ◌+◌, ◌<◌, ◌≤◌, List, [], ◌∷◌, ◌++◌, map, length, get_or, take, refl, sym, ap, ◌∙◌, arith}
use Rattle.std.specs.List.{flat_map, range_with_len}
use Rattle.std.proofs.lemmas.List.{get_or-map, length-map, take_all}
use Rattle.std.proofs.lemmas.List.FromFn.{map-range_with_len_more}
use Rattle.std.proofs.lemmas.List.Sums.{sum_by_more, sum_by-take-le}
use Rattle.link_core.specs.Strings.{string_place, string_table, string_table_size, terminated}
use Rattle.link_strings.specs.Named.{strings_of}
use denote.Ref.{Bor}

flat_map_map : {X Y Z : Type 0} (f : Y → List Z) (g : X → Y) (xs : List X) → flat_map f (map g xs) ≡ flat_map (λ x. f (g x)) xs
flat_map_map f g [] = refl
flat_map_map f g (x ∷ xs) = ap (λ ys. f (g x) ++ ys) (flat_map_map f g xs)

-- all of them are put
pub all_put : (names : List (Bor (List ℕ))) (i : ℕ) (old out : List ℕ) → length names ≤ i → out ≡ old ++ 0 ∷ flat_map (λ name. terminated name.now) (take i names)
    → out ≡ old ++ string_table (strings_of names)
unfolding string_table
all_put names i old out le is =
    is
    ∙ ap (λ (xs : List (Bor (List ℕ))). old ++ 0 ∷ flat_map (λ name. terminated name.now) xs) (take_all i names le)
    ∙ ap (λ (xs : List ℕ). old ++ 0 ∷ xs) (sym (flat_map_map terminated (λ name. name.now) names))

-- ---- where each starts

abbrev pub blank : Bor (List ℕ)
blank = record { ref_ptr = (0, 0); now = [] }

module _ (names : List (Bor (List ℕ))) where
  abbrev pub start : ℕ → ℕ
  start i = string_place (strings_of names) i

  length-strings : length (strings_of names) ≡ length names
  length-strings = length-map names (λ name. name.now)

  pub starts_first : start 0 ≡ 1
  unfolding string_place string_table_size
  starts_first = refl

  pub start_more : (i : ℕ) (d : Bor (List ℕ)) → i < length names → start (i + 1) ≡ start i + (length (get_or names i d).now + 1)
  unfolding string_place string_table_size
  start_more i d lt =
      let f : List ℕ → ℕ = λ name. length name + 1 in
      let more = sum_by_more f (strings_of names) i [] (omega (arith, lt, length-strings)) in
      let named : get_or (strings_of names) i [] ≡ (get_or names i d).now = get_or-map (λ (n : Bor (List ℕ)). n.now) names i d [] lt in
      omega (arith, more, ap length named)

  pub start_within : (i : ℕ) → start i ≤ string_table_size (strings_of names)
  unfolding string_place string_table_size
  start_within i =
      let f : List ℕ → ℕ = λ name. length name + 1 in omega (arith, sum_by-take-le f (strings_of names) i)

  pub starts_more : (i at : ℕ) (old new : List ℕ) → at ≡ start i → old ≡ map start (range_with_len 0 i) → new ≡ old ++ at ∷ [] → new ≡ map start (range_with_len 0 (i + 1))
  starts_more i at old new here before more =
      let e : 0 + i ≡ i = omega arith in
      more
      ∙ ap (λ (n : ℕ). old ++ n ∷ []) here
      ∙ ap (λ (xs : List ℕ). xs ++ start i ∷ []) before
      ∙ sym (map-range_with_len_more start 0 i i e)
