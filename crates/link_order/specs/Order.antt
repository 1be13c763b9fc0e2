-- The order of references: by object, then by section, then by index.
use Rattle.std.specs.List.{AllByRecursion}
use Rattle.std.specs.Prelude.{Bool, List, [], nat_lt, true, ℕ, ◌&&◌, ◌==◌, ◌||◌, ◌∷◌, ◌≡◌}
use Rattle.elf_object.specs.declared.reference.Reference.{Reference}
use Rattle.link_core.specs.declared.refusal.At.{At}
use Rattle.link_core.specs.References.{Use, at_of}

-- each item stands before all that follow it
abbrev pub Ascends : {A : Type 0} → (A → A → Bool) → List A → Type 0
Ascends before [] = Unit {0}
Ascends before (x ∷ xs) = AllByRecursion (λ y. before x y ≡ true) xs × Ascends before xs

-- of one object: by section, then by index
abbrev pub reference_before : Reference → Reference → Bool
reference_before a b = nat_lt a.section b.section || (a.section == b.section && nat_lt a.index b.index)

-- of all objects: by object, then by section, then by index
abbrev pub at_before : At → At → Bool
at_before a b =
    nat_lt a.object b.object
    || (a.object == b.object && (nat_lt a.section b.section ||
    (a.section == b.section && nat_lt a.index b.index)))

abbrev pub use_before : Use → Use → Bool
use_before a b = at_before (at_of a) (at_of b)

-- ---- the places of a section

-- the place stands before those of a section
abbrev pub is_before : ℕ → ℕ → At → Bool
is_before object section at = nat_lt at.object object || (at.object == object && nat_lt at.section section)

-- the place is one of the section
abbrev pub is_of : ℕ → ℕ → At → Bool
is_of object section at = at.object == object && at.section == section
