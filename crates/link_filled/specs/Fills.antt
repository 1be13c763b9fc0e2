-- An output section with what stands in it, by its pieces and the rooms of common symbols.
use Rattle.std.specs.List.{list_any}
use Rattle.std.specs.Prelude.{Bool, List, [], if◌then◌else◌, map, ◌++◌, Bool, true, false, not, ◌&&◌, [], ◌∷◌}
use Rattle.elf_object.specs.declared.constants.TheConstants.{SHT_NOBITS}
use Rattle.link_core.specs.Commons.{bss}
use Rattle.link_core.specs.Contents.{first_kind, is_zeros}
use Rattle.link_core.specs.OutputNames.{Output, Piece, by_priority, goes_before, is_executable, priority, same_output}
use Rattle.link_commons.specs.declared.room.Room.{Room}
use Rattle.link_outputs.specs.Grouped.{Group, empty_group}
use Rattle.link_tables.specs.declared.output.FilledOutput.{FilledOutput}
use Rattle.link_tables.specs.declared.output.Item.{Item}
use Rattle.link_tables.specs.declared.output.Thing.TheVariants as things

-- a piece with a priority goes before one with a greater one, or with none
abbrev pub before : Piece → Piece → Bool
before one other = goes_before (priority one.input.name) (priority other.input.name)

abbrev pub piece_item : Piece → Item
piece_item p = record { thing = things.Piece p.object p.section; align = p.input.align; size = p.input.size }

abbrev pub room_item : Room → Item
room_item room = record { thing = things.Common room.name; align = room.align; size = room.size }

-- common symbols stand in .bss
abbrev pub rooms_in : List Room → Output → List Room
rooms_in rooms output = if same_output output bss then rooms else []

unfoldable pub filled_by : List Room → Group → FilledOutput
filled_by rooms g =
    let pieces = by_priority g.pieces in
    record {
      name = g.output.name;
      class = g.output.class;
      kind = if is_zeros g.output.class then SHT_NOBITS else first_kind pieces;
      executable = list_any (λ p. is_executable p.input) pieces;
      items = map piece_item pieces ++ map room_item (rooms_in rooms g.output);
    }

abbrev pub is_none : List Room → Bool
is_none [] = true
is_none (room ∷ rooms) = false

-- the output sections, and last a .bss that only common symbols make
abbrev pub all_filled : List Room → List Group → List FilledOutput
all_filled rooms groups =
    map (filled_by rooms) groups
    ++ (if not (is_none rooms) && not (list_any (λ g. same_output g.output bss) groups)
    then filled_by rooms (empty_group bss) ∷ [] else [])
