-- The dropped sections of one object after the other, by marks: a flag for each section of an object.
use Rattle.std.specs.Prelude.{ℕ, Bool, true, false, ◌&&◌, if◌then◌else◌, List, [], ◌∷◌, ◌++◌, Option, Some, None, map, filter_map, length, fold, replicate, slice_set}
use Rattle.std.specs.List.{enumerate_from, list_any}
use Rattle.elf_object.specs.declared.group.Group.{Group}
use Rattle.elf_object.specs.Record.{ObjectRecord}
use Rattle.ifs_interface.specs.Triple.{same_name}
use Rattle.link_core.specs.Kept.{section_of}
use Rattle.link_core.specs.declared.resolution.Member.{Member}
use denote.Ref.{Bor}

-- the bytes that keys of a set refer to
abbrev pub names : List (Bor (List ℕ)) → List (List ℕ)
names keys = map (λ k. k.now) keys

-- the signatures of all groups so far, each once, and the flags of an object's sections
pub record Marks : Type 0 where
  pub seen : List (List ℕ)
  pub flags : List Bool

-- a group so far has the signature
abbrev pub is_seen : List (List ℕ) → List ℕ → Bool
is_seen seen signature = list_any (same_name signature) seen

-- with a signature more, unless it is there
abbrev pub seen_with : List (List ℕ) → List ℕ → List (List ℕ)
seen_with seen signature = if is_seen seen signature then seen else seen ++ signature ∷ []

-- with the flags of these sections set, where they are there
abbrev pub marked : List Bool → List ℕ → List Bool
marked flags members = fold (λ all m. slice_set all m true) flags members

-- after one more group
abbrev pub after_group : Marks → Group → Marks
after_group marks g = record {
  seen = seen_with marks.seen g.signature;
  flags = if g.comdat && is_seen marks.seen g.signature then marked marks.flags g.members else marks.flags;
}

-- after all groups of an object, no flag of which is set before
abbrev pub after_groups : List (List ℕ) → ObjectRecord → Marks
after_groups seen o =
    fold after_group (record { seen = seen; flags = replicate (length o.sections) false }) o.groups

-- a section of the object at this position, where its flag is set
abbrev pub member_for : ℕ → ℕ × Bool → Option Member
member_for object s = if s.1 then Some (section_of object s.0) else None

-- the sections whose flags are set
abbrev pub members_by : ℕ → List Bool → List Member
members_by object flags = filter_map (member_for object) (enumerate_from 0 flags)

-- the signatures so far, and the dropped sections
pub record Dropped : Type 0 where
  pub seen : List (List ℕ)
  pub members : List Member

abbrev pub done : List (List ℕ) → List Member → Dropped
done seen members = record { seen = seen; members = members }

-- after one more object
abbrev pub after_object : Dropped → ℕ × ObjectRecord → Dropped
after_object so_far o = record {
  seen = (after_groups so_far.seen o.1).seen;
  members = so_far.members ++ members_by o.0 (after_groups so_far.seen o.1).flags;
}
