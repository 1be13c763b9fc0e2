-- What is found among items that each have a reference, in the order of these.
use Rattle.std.specs.Prelude.{All, Bool, List, None, Option, Some, if◌then◌else◌, map, option_map, slice_range, ℕ, ◌≡◌}
use Rattle.elf_object.specs.Object.{IsRead}
use Rattle.link_core.specs.declared.refusal.At.{At}
use Rattle.link_core.specs.Patch.{uses_at}
use Rattle.link_core.specs.Planned.{Planned, uses_by}
use Rattle.link_core.specs.References.{Use}
use Rattle.link_core.specs.Relocations.{use_at}

-- the references of a section are those of the items from start up to end, where these have all of a link
abbrev pub IsRunOf : {X : Type 0} → (X → Use) → List X → ℕ → ℕ → ℕ → ℕ → Type 0
IsRunOf use_of items object section start end =
    (j : Planned) → All IsRead j.objects → uses_by j ≡ map use_of items
    → uses_at j object section ≡ map use_of (slice_range items start end)

-- the item, where it passes a test
abbrev pub if_at : {X : Type 0} → (X → Bool) → Option X → Option X
if_at test None = None
if_at test (Some x) = if test x then Some x else None

-- the reference of a place is that of the item
abbrev pub IsFoundAt : {X : Type 0} → (X → Use) → List X → At → Option X → Type 0
IsFoundAt use_of items at found =
    (j : Planned) → All IsRead j.objects → uses_by j ≡ map use_of items
    → use_at j at ≡ option_map use_of found
