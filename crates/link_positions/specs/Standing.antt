-- Pieces and common symbols at their addresses.
use Rattle.std.specs.Option.{option_map_or}
use Rattle.std.specs.Prelude.{List, [], slice_get, ℕ, ◌++◌, ◌+◌, ◌∷◌}
use Rattle.ifs_bytes.specs.Carried.{carried}
use Rattle.link_core.specs.declared.layout.CommonAt.{CommonAt}
use Rattle.link_core.specs.declared.layout.OutSection.{OutSection}
use Rattle.link_core.specs.declared.layout.PieceAt.{PieceAt}
use Rattle.link_core.specs.Aligned.{aligned}
use Rattle.link_tables.specs.declared.output.FilledOutput.{FilledOutput}
use Rattle.link_tables.specs.declared.output.Item.{Item}
use Rattle.link_tables.specs.declared.output.Thing.{Thing}
use Rattle.link_tables.specs.declared.output.Thing.TheVariants.{Common, Piece}
use Rattle.link_tables.specs.Capped.{capped}
use Rattle.link_positions.specs.declared.next.Next.{Next}
use Rattle.link_positions.specs.Next.{at, behind}

abbrev pub piece_of : ℕ → ℕ → Thing → List PieceAt
piece_of out address (Piece object section) =
    record { object = object; section = section; out = out; address = address } ∷ []
piece_of out address (Common n) = []

abbrev pub common_of : ℕ → Thing → List CommonAt
common_of address (Piece object section) = []
common_of address (Common n) = record { name = n; address = address } ∷ []

-- the items of an output section at an address, from a place in it on
unfoldable pub pieces_from : ℕ → ℕ → ℕ → List Item → List PieceAt
pieces_from out address place [] = []
pieces_from out address place (i ∷ items) =
    piece_of out (carried (address + capped (aligned i.align place))) i.thing
    ++ pieces_from out address (capped (capped (aligned i.align place) + i.size)) items

unfoldable pub commons_from : ℕ → ℕ → List Item → List CommonAt
commons_from address place [] = []
commons_from address place (i ∷ items) =
    common_of (carried (address + capped (aligned i.align place))) i.thing
    ++ commons_from address (capped (capped (aligned i.align place) + i.size)) items

-- the address of a section by its position
abbrev pub address_at : List OutSection → ℕ → ℕ
address_at sections n = option_map_or (λ s. s.address) (slice_get sections n) 0

-- those of output sections, in order
unfoldable pub pieces_in : List OutSection → Next → List FilledOutput → List PieceAt
pieces_in sections next [] = []
pieces_in sections next (o ∷ outputs) =
    pieces_from (at next o.class) (address_at sections (at next o.class)) 0 o.items
    ++ pieces_in sections (behind next o.class) outputs

unfoldable pub commons_in : List OutSection → Next → List FilledOutput → List CommonAt
commons_in sections next [] = []
commons_in sections next (o ∷ outputs) =
    commons_from (address_at sections (at next o.class)) 0 o.items
    ++ commons_in sections (behind next o.class) outputs
