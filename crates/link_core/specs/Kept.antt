-- Which sections of its objects a link keeps (gABI, "Section Groups").
use Rattle.std.specs.Prelude.{ℕ, ◌==◌, Bool, false, not, ◌&&◌, if◌then◌else◌, List, [], ◌∷◌, ◌++◌, map, filter, length, flat_map, slice_get}
use Rattle.std.specs.List.{enumerate_from, list_any}
use Rattle.std.specs.Option.{option_map_or}
use Rattle.ifs_bytes.specs.Places.{places}
use Rattle.ifs_interface.specs.Triple.{same_name}
use Rattle.elf_object.specs.declared.group.Group.{Group}
use Rattle.elf_object.specs.Record.{ObjectRecord}
use Rattle.elf_object.specs.Sections.{is_loadable}
use Rattle.link_core.specs.declared.resolution.Member.{Member}

-- ---- groups

-- all groups, each with the position of its object: by object, and in the order of the object's section table
abbrev pub all_groups : List ObjectRecord → List (ℕ × Group)
all_groups objects = flat_map (λ o. map (λ group. (o.0, group)) o.1.groups) (enumerate_from 0 objects)

-- one of the groups, of any sort, has the signature
abbrev pub has_signature : List ℕ → List (ℕ × Group) → Bool
has_signature signature groups = list_any (λ g. same_name g.1.signature signature) groups

-- the COMDAT groups whose signature a group before them has, where these groups stand before all
abbrev pub repeated_after : List (ℕ × Group) → List (ℕ × Group) → List (ℕ × Group)
repeated_after before [] = []
repeated_after before (g ∷ gs) =
    (if g.1.comdat && has_signature g.1.signature before then g ∷ [] else []) ++ repeated_after (before ++ g ∷ []) gs

-- the group is of the object at this position, and has the section
abbrev pub has_member : ℕ → ℕ → ℕ × Group → Bool
has_member object section g = g.0 == object && list_any (λ m. m == section) g.1.members

-- a section is dropped where it is in a COMDAT group whose signature an earlier group has
unfoldable pub is_dropped : List ObjectRecord → ℕ → ℕ → Bool
is_dropped objects object section = list_any (has_member object section) (repeated_after [] (all_groups objects))

abbrev pub section_of : ℕ → ℕ → Member
section_of object section = record { object = object; section = section }

-- the dropped sections, by object and section
unfoldable pub dropped_sections : List ObjectRecord → List Member
dropped_sections objects =
    flat_map (λ o. map (section_of o.0) (filter (is_dropped objects o.0) (places 0 (length o.1.sections))))
    (enumerate_from 0 objects)

-- ---- what is kept, when these sections are dropped

abbrev pub is_among : List Member → ℕ → ℕ → Bool
is_among dropped object section = list_any (λ m. m.object == object && m.section == section) dropped

-- section `section` of the object `o` at position `object` is loaded, and not dropped
unfoldable pub is_kept : List Member → ℕ → ObjectRecord → ℕ → Bool
is_kept dropped object o section =
    option_map_or is_loadable (slice_get o.sections section) false && not (is_among dropped object section)

-- the kept sections, by object and section
unfoldable pub kept_sections : List Member → List ObjectRecord → List Member
kept_sections dropped objects =
    flat_map (λ o. map (section_of o.0) (filter (is_kept dropped o.0 o.1) (places 0 (length o.1.sections))))
    (enumerate_from 0 objects)
