-- Alignments: powers of two, in bytes (gABI, "Section Header", sh_addralign).
use Rattle.std.specs.Prelude.{List, [], fold, max, ℕ, ◌*◌, ◌+◌, ◌-◌, ◌/◌, ◌∷◌}

-- an alignment of 0 counts as 1
abbrev pub alignment : ℕ → ℕ
alignment align = max align 1

-- the least multiple of an alignment that isn't below a number
unfoldable pub aligned : ℕ → ℕ → ℕ
aligned align at = (at + (alignment align - 1)) / alignment align * alignment align

-- ---- things one after the other, each at the least multiple of its alignment behind what is before it

module _ {X : Type 0} (align size : X → ℕ) where
  -- where they stand, from a place on
  unfoldable pub places_from : ℕ → List X → List ℕ
  places_from at [] = []
  places_from at (x ∷ xs) = aligned (align x) at ∷ places_from (aligned (align x) at + size x) xs

  -- where the last one ends
  unfoldable pub end_from : ℕ → List X → ℕ
  end_from at [] = at
  end_from at (x ∷ xs) = end_from (aligned (align x) at + size x) xs

-- the greatest of the alignments, 1 at least
abbrev pub greatest_align : {X : Type 0} → (X → ℕ) → List X → ℕ
greatest_align align xs = fold (λ a x. max a (align x)) 1 xs
