-- The kept sections of objects, by flags.
use Rattle.std.specs.Prelude.{ℕ, ◌+◌, Bool, false, if◌then◌else◌, List, [], ◌∷◌, ◌++◌, filter_map, slice_get, Option, Some, None, unwrap_or}
use Rattle.std.specs.List.{enumerate_from}
use Rattle.std.specs.declared.vec.Vec.{Vec}
use Rattle.elf_object.specs.declared.section.ObjSection.{ObjSection}
use Rattle.elf_object.specs.Record.{ObjectRecord}
use Rattle.link_core.specs.OutputNames.{Piece}

-- a section that isn't there has none
abbrev pub has_flag : List Bool → ℕ → Bool
has_flag flags section = unwrap_or (slice_get flags section) false

-- the piece that a section of the object at this position is, with its number, where it is kept
abbrev pub piece_of : (ℕ → Bool) → ℕ → ℕ × ObjSection → Option Piece
piece_of kept object s =
    if kept s.0 then Some (record { object = object; section = s.0; input = s.1 }) else None

-- the pieces of an object
abbrev pub pieces_of_object : List Bool → ℕ → List ObjSection → List Piece
pieces_of_object flags object sections =
    filter_map (piece_of (has_flag flags) object) (enumerate_from 0 sections)

-- the pieces of the objects from this position on, each by its flags
abbrev pub pieces_from : {Z : Type 0} → ℕ → List (Vec Bool Z) → List ObjectRecord → List Piece
pieces_from i flags [] = []
pieces_from i [] (o ∷ os) = []
pieces_from i (f ∷ fs) (o ∷ os) = pieces_of_object f.items i o.sections ++ pieces_from (i + 1) fs os
