-- .dynsym (gABI, "Symbol Table"): a row for no symbol, the imports, and the exports.
use Rattle.std.specs.List.{enumerate_from}
use Rattle.std.specs.Option.{option_map_or}
use Rattle.std.specs.Prelude.{Bool, List, flat_map, if◌then◌else◌, length, map, position, ℕ, ◌*◌, ◌++◌, ◌+◌, ◌==◌, ◌||◌, ◌∷◌}
use Rattle.ifs_bytes.specs.declared.form.Order.TheVariants.{Little}
use Rattle.ifs_bytes.specs.declared.form.Width.TheVariants.{W64}
use Rattle.elf_file.specs.Written.{symbol_bytes}
use Rattle.elf_file.specs.declared.symbol.Row.{Row}
use Rattle.ifs_interface.specs.declared.fact.Fact.{Fact}
use Rattle.ifs_interface.specs.declared.fact.Fact.TheVariants as facts
use Rattle.elf_object.specs.declared.constants.TheConstants.{SHN_ABS}
use Rattle.elf_object.specs.declared.symbol.ObjPlace.{ObjPlace}
use Rattle.elf_object.specs.declared.symbol.ObjPlace.TheVariants as places
use Rattle.elf_object.specs.declared.symbol.ObjSymbol.{ObjSymbol}
use Rattle.link_core.specs.declared.constants.TheConstants.{STB_WEAK, STT_TLS}
use Rattle.link_core.specs.declared.layout.Layout.{Layout}
use Rattle.link_core.specs.declared.plan.Plan.{Plan}
use Rattle.link_core.specs.declared.resolution.Bound.{Bound}
use Rattle.link_core.specs.declared.resolution.Bound.TheVariants as bounds
use Rattle.link_core.specs.declared.resolution.NameRow.{NameRow}
use Rattle.link_core.specs.declared.tables.TheConstants.{STB_GLOBAL, STT_FUNC, STT_NOTYPE, STT_OBJECT}
use Rattle.link_core.specs.Binding.{common_size}
use Rattle.link_core.specs.Commons.{bss, mentions_at}
use Rattle.link_core.specs.Layout.{output_position}
use Rattle.link_core.specs.Places.{common_address, section_position}
use Rattle.link_core.specs.Planned.{Planned, row_at}
use Rattle.link_core.specs.References.{symbol_of}
use Rattle.link_core.specs.Strings.{dynamic_rows, dynamic_strings, string_place}
use Rattle.link_core.specs.Value.{block_offset, place_value}

-- STB_WEAK or STB_GLOBAL
abbrev pub row_binding : Bool → ℕ
row_binding weak = if weak then STB_WEAK else STB_GLOBAL

-- STT_NOTYPE, STT_FUNC, STT_OBJECT, STT_TLS
abbrev pub type_of : Fact → ℕ
type_of facts.NoType = STT_NOTYPE
type_of facts.Func = STT_FUNC
type_of facts.Object = STT_OBJECT
type_of facts.Tls = STT_TLS

abbrev pub info_of : ℕ → ℕ → ℕ
info_of binding type_number = binding * 16 + type_number

abbrev pub null_row : Row
null_row = record { name = 0; info = 0; other = 0; shndx = 0; value = 0; size = 0 }

-- an import: weak where every mention is
abbrev pub import_row : ℕ → NameRow → Row
import_row at row = record {
  name = at;
  info = info_of (row_binding row.weak_only) (type_of row.class);
  other = 0;
  shndx = 0;
  value = 0;
  size = 0;
}

-- the type of a definition, where it is one of the four
abbrev pub export_type : ℕ → ℕ
export_type type_number =
    if type_number == STT_OBJECT || type_number == STT_FUNC || type_number == STT_TLS then type_number
    else STT_NOTYPE

-- the number of the section in the section header table, SHN_ABS where there is none
abbrev pub export_section : Layout → ℕ → ObjPlace → ℕ
export_section l object places.Undefined = 0
export_section l object places.Common = 0
export_section l object places.Absolute = SHN_ABS
export_section l object (places.In section) = section_position l object section + 1

-- a thread-local symbol has its offset in the block as its value
abbrev pub export_value : Layout → ℕ → ℕ → ℕ
export_value l type_number s = if type_number == STT_TLS then block_offset l s else s

abbrev pub object_row : Planned → Layout → ℕ → NameRow → ℕ → ObjSymbol → Row
object_row j l at row object symbol = record {
  name = at;
  info = info_of (row_binding (symbol.binding == STB_WEAK)) (export_type symbol.kind);
  other = row.visibility;
  shndx = export_section l object symbol.place;
  value = export_value l (export_type symbol.kind) (place_value l object symbol.place symbol.value);
  size = symbol.size;
}

-- a common is data in .bss, whatever its rows are
abbrev pub common_row : Planned → Layout → ℕ → NameRow → ℕ → Row
common_row j l at row n = record {
  name = at;
  info = info_of STB_GLOBAL STT_OBJECT;
  other = row.visibility;
  shndx = output_position j bss + 1;
  value = common_address l n;
  size = common_size (mentions_at j n);
}

abbrev pub export_by : Planned → Layout → ℕ → NameRow → ℕ → Bound → Row
export_by j l at row n (bounds.Object object index) =
    option_map_or (object_row j l at row object) (symbol_of j.objects object index) null_row
export_by j l at row n bounds.Common = common_row j l at row n
export_by j l at row n bounds.Provided = null_row
export_by j l at row n (bounds.Library library) = null_row
export_by j l at row n bounds.Import = null_row
export_by j l at row n bounds.Zero = null_row

-- the place of the name of a row in .dynstr; the rows are counted without the first
abbrev pub row_name : Planned → ℕ → ℕ
row_name j i = string_place (dynamic_strings j) i

unfoldable pub import_of : Planned → ℕ × ℕ → Row
import_of j place = option_map_or (import_row (row_name j place.0)) (row_at j place.1) null_row

unfoldable pub export_of : Planned → Layout → ℕ × ℕ → Row
export_of j l place =
    option_map_or (λ row. export_by j l (row_name j place.0) row place.1 row.bound) (row_at j place.1)
    null_row

unfoldable pub dynamic_symbols : Planned → Layout → List Row
dynamic_symbols j l =
    null_row
    ∷ map (import_of j) (enumerate_from 0 j.plan.imports)
    ++ map (export_of j l) (enumerate_from (length j.plan.imports) j.plan.exports)

unfoldable pub dynsym_bytes : Planned → Layout → List ℕ
dynsym_bytes j l = flat_map (λ row. symbol_bytes row Little W64) (dynamic_symbols j l)

-- the row of a name; 0 where it has none
unfoldable pub symbol_index : Plan → ℕ → ℕ
symbol_index p n = option_map_or (λ i. i + 1) (position (λ m. m == n) (dynamic_rows p)) 0
