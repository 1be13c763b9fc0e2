-- Words on lists that several rules of a link use.
use Rattle.std.specs.Prelude.{Bool, not, List, [], ◌∷◌, filter, filter_map, slice_get, Option, Some, None, Result, Ok, Err}
use Rattle.ifs_bytes.specs.Outcome.{◌>>=◌}
use Rattle.link_core.specs.declared.refusal.LinkRefusal.{LinkRefusal}

-- each item once, in order of the first
abbrev pub once : {A : Type 0} → (A → A → Bool) → List A → List A
once same [] = []
once same (x ∷ xs) = x ∷ filter (λ y. not (same x y)) (once same xs)

-- the first answer that an item gives
abbrev pub first_some : {A B : Type 0} → (A → Option B) → List A → Option B
first_some f xs = slice_get (filter_map f xs) 0

-- what each item gives, or the first cause that one gives
abbrev pub each_ok : {A B E : Type 0} → (A → Result B E) → List A → Result (List B) E
each_ok f [] = Ok []
each_ok f (x ∷ xs) = f x >>= (λ y. each_ok f xs >>= (λ ys. Ok (y ∷ ys)))

-- there is no refusal
abbrev pub unrefused : Option LinkRefusal → Result (Unit {0}) LinkRefusal
unrefused None = Ok tt
unrefused (Some refusal) = Err refusal
