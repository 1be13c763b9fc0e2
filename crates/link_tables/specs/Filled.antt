-- The output sections of a link with what stands in them.
use Rattle.std.specs.List.{list_any}
use Rattle.std.specs.Prelude.{List, if◌then◌else◌, map}
use Rattle.elf_object.specs.declared.constants.TheConstants.{SHT_NOBITS}
use Rattle.link_core.specs.Commons.{CommonItem, Item as Standing, PieceItem, item_align, item_size, items_of, outputs_by}
use Rattle.link_core.specs.Contents.{first_kind, is_zeros}
use Rattle.link_core.specs.OutputNames.{Output, is_executable, pieces_of}
use Rattle.link_core.specs.Planned.{Planned, pieces_in}
use Rattle.link_tables.specs.declared.output.FilledOutput.{FilledOutput}
use Rattle.link_tables.specs.declared.output.Item.{Item}
use Rattle.link_tables.specs.declared.output.Thing.{Thing}
use Rattle.link_tables.specs.declared.output.Thing.TheVariants.{Common, Piece}

abbrev pub thing_of : Standing → Thing
thing_of (PieceItem piece) = Piece piece.object piece.section
thing_of (CommonItem n) = Common n

abbrev pub item_of : Planned → Standing → Item
item_of j item = record { thing = thing_of item; align = item_align j item; size = item_size j item }

unfoldable pub filled : Planned → Output → FilledOutput
filled j output =
    let pieces = pieces_of (pieces_in j) output in
    record {
      name = output.name;
      class = output.class;
      kind = if is_zeros output.class then SHT_NOBITS else first_kind pieces;
      executable = list_any (λ p. is_executable p.input) pieces;
      items = map (item_of j) (items_of j output);
    }

-- all of them, in order of first appearance
abbrev pub outputs_filled : Planned → List FilledOutput
outputs_filled j = map (filled j) (outputs_by j)
