-- What holds of every link.
use Rattle.std.specs.Prelude.{Err, IsSome, List, Ok, [], length, ℕ, ◌%◌, ◌++◌, ◌+◌, ◌<◌, ◌∷◌, ◌≡◌, ◌≤◌, ◌⊎◌}
use Rattle.ifs_interface.specs.Facts.{Facts}
use Rattle.elf_object.specs.Record.{ObjectRecord}
use Rattle.link_machine.specs.Rules.{MachineRules}
use Rattle.link_core.specs.declared.layout.Layout.{Layout}
use Rattle.link_core.specs.declared.options.LinkOptions.{LinkOptions}
use Rattle.link_core.specs.declared.plan.Plan.{Plan}
use Rattle.link_core.specs.declared.refusal.LinkRefusal.{LinkRefusal}
use Rattle.link_core.specs.declared.resolution.Resolution.{Resolution}
use Rattle.link_core.specs.Aligned.{aligned, alignment}
use Rattle.link_core.specs.Image.{image_of, laid_out}
use Rattle.link_core.specs.Layout.{layout_of}
use Rattle.link_core.specs.Link.{link_of, objects_of, rules_for, sides_checked}
use Rattle.link_core.specs.Parts.{Part}
use Rattle.link_core.specs.Plan.{plan_of}
use Rattle.link_core.specs.Resolution.{resolution_of}
use Rattle.link_core.specs.Side.{Held, Side, library_named}

-- ---- a link depends on the facts of its libraries alone

-- the name of the file matters only where there is no soname
abbrev pub AreOneLibrary : List ℕ → List ℕ → Facts → Type 0
AreOneLibrary one other facts = IsSome facts.soname ⊎ (one ≡ other)

-- a library in the place of one with equal facts gives an equal link, whatever stands before and behind
abbrev pub LinksSeeFacts : Type 0
LinksSeeFacts =
    (options : LinkOptions) (files : List (List ℕ)) (before after : List Side) (one other : List ℕ)
    (facts others : Facts) → facts ≡ others → AreOneLibrary one other facts
    → link_of options files (before ++ Held (library_named one facts) ∷ after)
    ≡ link_of options files (before ++ Held (library_named other others) ∷ after)

-- ---- a refusal is that of the first step that has any, and then no later step counts

pub record RefusesInOrder (options : LinkOptions) (files : List (List ℕ)) (sides : List Side) : Type 0 where
  pub objects : (e : LinkRefusal) → objects_of files ≡ Err e → link_of options files sides ≡ Err e
  pub libraries :
      (objects : List ObjectRecord) (e : LinkRefusal) → objects_of files ≡ Ok objects
      → sides_checked sides ≡ Err e → link_of options files sides ≡ Err e
  pub names :
      (objects : List ObjectRecord) (e : LinkRefusal) → objects_of files ≡ Ok objects
      → sides_checked sides ≡ Ok tt → resolution_of options objects sides ≡ Err e
      → link_of options files sides ≡ Err e
  pub needs :
      (objects : List ObjectRecord) (r : Resolution) (rules : MachineRules) (e : LinkRefusal)
      → objects_of files ≡ Ok objects → sides_checked sides ≡ Ok tt → resolution_of options objects sides ≡ Ok r
      → rules_for objects ≡ Ok rules → plan_of rules options objects r ≡ Err e
      → link_of options files sides ≡ Err e
  pub places :
      (objects : List ObjectRecord) (r : Resolution) (rules : MachineRules) (p : Plan) (e : LinkRefusal)
      → objects_of files ≡ Ok objects → sides_checked sides ≡ Ok tt → resolution_of options objects sides ≡ Ok r
      → rules_for objects ≡ Ok rules → plan_of rules options objects r ≡ Ok p
      → layout_of rules options objects r p ≡ Err e → link_of options files sides ≡ Err e
  pub image :
      (objects : List ObjectRecord) (r : Resolution) (rules : MachineRules) (p : Plan) (l : Layout)
      → objects_of files ≡ Ok objects → sides_checked sides ≡ Ok tt → resolution_of options objects sides ≡ Ok r
      → rules_for objects ≡ Ok rules → plan_of rules options objects r ≡ Ok p
      → layout_of rules options objects r p ≡ Ok l
      → link_of options files sides ≡ image_of rules options objects r p l

abbrev pub LinksRefuseInOrder : Type 0
LinksRefuseInOrder =
    (options : LinkOptions) (files : List (List ℕ)) (sides : List Side) → RefusesInOrder options files sides

-- ---- parts at their offsets

-- each part starts at or behind the end of the one before it, the first at or behind an offset
abbrev pub Ascend : ℕ → List Part → Type 0
Ascend at [] = Unit {0}
Ascend at (part ∷ parts) = (at ≤ part.offset) × Ascend (part.offset + length part.bytes) parts

-- where the last part ends
abbrev pub parts_end : ℕ → List Part → ℕ
parts_end at [] = at
parts_end at (part ∷ parts) = parts_end (part.offset + length part.bytes) parts

-- the bytes that are laid out end with the last part
abbrev pub PartsFillTheirSpan : Type 0
PartsFillTheirSpan =
    (at : ℕ) (parts : List Part) → Ascend at parts → at + length (laid_out at parts) ≡ parts_end at parts

-- what is laid out before a part doesn't depend on it or on what follows
abbrev pub PartsFollow : Type 0
PartsFollow =
    (at : ℕ) (before after : List Part)
    → laid_out at (before ++ after) ≡ laid_out at before ++ laid_out (parts_end at before) after

-- ---- places

-- a place is the least multiple of the alignment that isn't below a number
pub record IsLeastMultiple (align at place : ℕ) : Type 0 where
  pub not_below : at ≤ place
  pub least : place < at + alignment align
  pub multiple : place % alignment align ≡ 0

abbrev pub PlacesAreLeast : Type 0
PlacesAreLeast = (align at : ℕ) → IsLeastMultiple align at (aligned align at)
