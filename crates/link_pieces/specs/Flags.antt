-- Flags of sections: a list for each object, with a flag for each of its sections.
use Rattle.std.specs.Prelude.{◌≡◌, ℕ, Bool, false, not, ◌&&◌, List, [], map, length, slice_index_or, slice_set}
use Rattle.std.specs.List.{enumerate_from}
use Rattle.std.specs.declared.vec.Vec.{Vec}
use Rattle.ifs_bytes.specs.Places.{places}
use Rattle.elf_object.specs.Record.{ObjectRecord}
use Rattle.elf_object.specs.Sections.{is_loadable}
use Rattle.link_core.specs.Kept.{is_kept, is_among}
use Rattle.link_core.specs.declared.resolution.Member.{Member}

-- for each section of the object `o` at position `object`, whether it is kept
abbrev pub flags_of : List Member → ℕ → ObjectRecord → List Bool
flags_of dropped object o = map (is_kept dropped object o) (places 0 (length o.sections))

-- the same for each object
abbrev pub kept_flags : List Member → List ObjectRecord → List (List Bool)
kept_flags dropped objects = map (λ o. flags_of dropped o.0 o.1) (enumerate_from 0 objects)

-- the lists that vectors have
abbrev pub rows : {Z : Type 0} → List (Vec Bool Z) → List (List Bool)
rows all = map (λ flags. flags.items) all

-- for each section whether it is loadable
abbrev pub loadable_of : ObjectRecord → List Bool
loadable_of o = map is_loadable o.sections

-- the flag of a section, false where there is none
abbrev pub flag_at : List (List Bool) → ℕ → ℕ → Bool
flag_at all object section = slice_index_or (slice_index_or all object []) section false

-- the flags with that of one section cleared, where there is one
abbrev pub cleared : Member → List (List Bool) → List (List Bool)
cleared member all =
    slice_set all member.object (slice_set (slice_index_or all member.object []) member.section false)

-- the flags `to` are the flags `from` with those of the dropped sections cleared
pub record AreCleared (dropped : List Member) (from to : List (List Bool)) : Type 0 where
  pub count : length to ≡ length from
  pub counts : (i : ℕ) → length (slice_index_or to i []) ≡ length (slice_index_or from i [])
  pub flags : (i s : ℕ) → flag_at to i s ≡ (flag_at from i s && not (is_among dropped i s))
