-- Values by the list of pieces are those of the layout.
use Rattle.std.proofs.Common.{◌≡◌, ◌+◌, ℕ, List, Option, Some, None, refl, sym, ap}
use Rattle.std.specs.Option.{option_map_or}
use Rattle.elf_object.specs.Record.{ObjectRecord}
use Rattle.elf_object.specs.declared.symbol.ObjPlace.{ObjPlace}
use Rattle.elf_object.specs.declared.symbol.ObjPlace.TheVariants as places
use Rattle.elf_object.specs.declared.symbol.ObjSymbol.{ObjSymbol}
use Rattle.link_core.specs.declared.layout.Layout.{Layout}
use Rattle.link_core.specs.References.{symbol_of}
use Rattle.link_core.specs.Value.{place_value, row_value, wrapped}
use Rattle.link_where.proofs.Found.{address_is}
use Rattle.link_values.specs.Rows.{row_in, value_in}

pub value_is : (l : Layout) (object : ℕ) (place : ObjPlace) (value : ℕ) → value_in l.pieces object place value ≡ place_value l object place value
value_is l object places.Undefined value = refl
value_is l object places.Common value = refl
value_is l object places.Absolute value = refl
value_is l object (places.In section) value = ap (λ at. wrapped (at + value)) (sym (address_is l object section))

found_is : (l : Layout) (object : ℕ) (found : Option ObjSymbol)
    → option_map_or (λ (s : ObjSymbol). value_in l.pieces object s.place s.value) found 0 ≡ option_map_or (λ (s : ObjSymbol). place_value l object s.place s.value) found 0
found_is l object None = refl
found_is l object (Some s) = value_is l object s.place s.value

pub row_is : (l : Layout) (objects : List ObjectRecord) (object row : ℕ) → row_in objects l.pieces object row ≡ row_value objects l object row
unfolding row_value
row_is l objects object row = found_is l object (symbol_of objects object row)
