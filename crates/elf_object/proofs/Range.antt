-- A loop over places counts up: what it keeps at the end of a vector.
use Rattle.std.proofs.Common.{◌≡◌, ℕ, ◌+◌, ◌<◌, ◌≤◌, List, [], ◌∷◌, ◌++◌, map, ap, sym, ◌∙◌, append_assoc}
use Rattle.std.specs.List.{flat_map}
use Rattle.ifs_bytes.specs.Places.{places}
use Rattle.ifs_bytes.proofs.Range.{places_more, places_end}

pub map_end : {X : Type 0} (f : ℕ → X) (i n : ℕ) → n ≤ i → map f (places i n) ≡ []
map_end f i n h = ap (map f) (places_end i n h)

-- one turn of a loop that puts what f gives at place i at the end
pub map_turn : {X : Type 0} (f : ℕ → X) (i n : ℕ) (old new all : List X) (x : X) → i < n → x ≡ f i → new ≡ old ++ x ∷ []
    → old ++ map f (places i n) ≡ all → new ++ map f (places (i + 1) n) ≡ all
map_turn f i n old new all x h gives pushed so_far =
    let rest = map f (places (i + 1) n) in
    ap (λ xs. xs ++ rest) (pushed ∙ ap (λ y. old ++ y ∷ []) gives) ∙ append_assoc old (f i ∷ []) rest
    ∙ (ap (λ xs. old ++ xs) (sym (ap (map f) (places_more i n h))) ∙ so_far)

pub flat_map_end : {X : Type 0} (f : ℕ → List X) (i n : ℕ) → n ≤ i → flat_map f (places i n) ≡ []
flat_map_end f i n h = ap (flat_map f) (places_end i n h)

-- one turn of a loop that puts all that f gives at place i at the end
pub flat_map_turn : {X : Type 0} (f : ℕ → List X) (i n : ℕ) (old new all : List X) → i < n → new ≡ old ++ f i
    → old ++ flat_map f (places i n) ≡ all → new ++ flat_map f (places (i + 1) n) ≡ all
flat_map_turn f i n old new all h pushed so_far =
    let rest = flat_map f (places (i + 1) n) in
    ap (λ xs. xs ++ rest) pushed ∙ append_assoc old (f i) rest
    ∙ (ap (λ xs. old ++ xs) (sym (ap (flat_map f) (places_more i n h))) ∙ so_far)
