-- Values of rows by the list of pieces of a layout.
use Rattle.std.specs.Option.{option_map_or}
use Rattle.std.specs.Prelude.{◌≡◌, List, ℕ, ◌+◌}
use Rattle.elf_object.specs.Record.{ObjectRecord}
use Rattle.elf_object.specs.declared.symbol.ObjPlace.{ObjPlace}
use Rattle.elf_object.specs.declared.symbol.ObjPlace.TheVariants as places
use Rattle.link_core.specs.declared.layout.Layout.{Layout}
use Rattle.link_core.specs.declared.layout.PieceAt.{PieceAt}
use Rattle.link_core.specs.References.{symbol_of}
use Rattle.link_core.specs.Value.{place_value, row_value, wrapped}
use Rattle.link_where.specs.Pieces.{address_in}

-- `value_in l.pieces` is `place_value l` of the layout
abbrev pub value_in : List PieceAt → ℕ → ObjPlace → ℕ → ℕ
value_in pieces object places.Undefined value = 0
value_in pieces object places.Common value = 0
value_in pieces object places.Absolute value = value
value_in pieces object (places.In section) value = wrapped (address_in pieces object section + value)

-- `row_in objects l.pieces` is `row_value objects l`
abbrev pub row_in : List ObjectRecord → List PieceAt → ℕ → ℕ → ℕ
row_in objects pieces object row =
    option_map_or (λ s. value_in pieces object s.place s.value) (symbol_of objects object row) 0

-- ---- laws

abbrev pub PlacesHaveValues : Type 0
PlacesHaveValues =
    (l : Layout) (object : ℕ) (place : ObjPlace) (value : ℕ)
    → value_in l.pieces object place value ≡ place_value l object place value

abbrev pub RowsHaveValues : Type 0
RowsHaveValues =
    (l : Layout) (objects : List ObjectRecord) (object row : ℕ)
    → row_in objects l.pieces object row ≡ row_value objects l object row
