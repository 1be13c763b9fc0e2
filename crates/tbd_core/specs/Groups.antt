-- Things in groups: those of each key, by the order of the keys.
use Rattle.std.specs.Prelude.{ℕ, List, [], ◌∷◌, map, filter}
use Rattle.std.specs.List.{prefix_len}
use Rattle.ifs_interface.specs.Triple.{same_name}
use Rattle.ifs_interface.specs.Extracted.{in_order}

-- those of a key
abbrev pub of_key : {X : Type 0} → (X → List ℕ) → List ℕ → List X → List X
of_key key k xs = filter (λ x. same_name (key x) k) xs

-- those of each key that there is, the keys in order
unfoldable pub grouped : {X : Type 0} → (X → List ℕ) → List X → List (List X)
grouped key xs = map (λ k. of_key key k xs) (in_order (map key xs))

-- how many at the front have the key of the first
abbrev pub run_size : {X : Type 0} → (X → List ℕ) → List X → ℕ
run_size key [] = 0
run_size key (x ∷ xs) = prefix_len (λ y. same_name (key y) (key x)) (x ∷ xs)
