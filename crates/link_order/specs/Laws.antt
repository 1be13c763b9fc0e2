-- What holds of the order of all references.
use Rattle.std.specs.Prelude.{All, List, Ok, Some, drop, filter, length, slice_get, take, ℕ, ◌≡◌}
use Rattle.elf_object.specs.Object.{IsRead, object_of}
use Rattle.elf_object.specs.Record.{ObjectRecord}
use Rattle.link_core.specs.declared.resolution.Member.{Member}
use Rattle.link_core.specs.Patch.{uses_at}
use Rattle.link_core.specs.Planned.{Planned, uses_by}
use Rattle.link_core.specs.References.{Use, at_of, uses_of}
use Rattle.link_core.specs.Relocations.{use_at}
use Rattle.link_order.specs.Order.{Ascends, is_before, is_of, reference_before, use_before}

-- the references of an object that was read
abbrev pub ReferencesAscend : Type 0
ReferencesAscend =
    (file : List ℕ) (o : ObjectRecord) → object_of file ≡ Ok o → Ascends reference_before o.references

-- the references of objects that were read
abbrev pub UsesAscend : Type 0
UsesAscend =
    (dropped : List Member) (objects : List ObjectRecord) → All IsRead objects
    → Ascends use_before (uses_of dropped objects)

-- so a reference is the one of its place
abbrev pub UsesAreFound : Type 0
UsesAreFound =
    (j : Planned) (i : ℕ) (u : Use) → All IsRead j.objects → slice_get (uses_by j) i ≡ Some u
    → use_at j (at_of u) ≡ Some u

-- ---- the references of a section

-- how many references stand before those of a section, and how many are of it
abbrev pub count_before : ℕ → ℕ → List Use → ℕ
count_before object section us = length (filter (λ u. is_before object section (at_of u)) us)

abbrev pub count_of : ℕ → ℕ → List Use → ℕ
count_of object section us = length (filter (λ u. is_of object section (at_of u)) us)

-- the references of a section stand together, behind those before them
abbrev pub SectionsAreRuns : Type 0
SectionsAreRuns =
    (j : Planned) (object section : ℕ) → All IsRead j.objects
    → uses_at j object section
    ≡ take (count_of object section (uses_by j)) (drop (count_before object section (uses_by j)) (uses_by j))
