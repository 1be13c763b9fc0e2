-- The rows of the dynamic symbol table (gABI, "Symbol Table"). Row 0 stands for no symbol.
use Rattle.std.specs.Prelude.{ℕ, ◌+◌, ◌*◌, ◌/◌, ◌%◌, ◌≤◌, Bool, not, ◌==◌, ◌&&◌, ◌||◌, if◌then◌else◌, List, length, Option, Some, None, is_none, option_map, Result, Ok, Err, count_by, sum_by}
use Rattle.std.specs.List.{find, filter_map}
use Rattle.ifs_bytes.specs.Places.{places}
use Rattle.elf_file.specs.Tables.{symbol_size, symbol_at}
use Rattle.elf_file.specs.declared.cause.ElfCause.{ElfCause}
use Rattle.elf_file.specs.declared.cause.ElfCause.TheVariants.{BadName}
use Rattle.elf_file.specs.declared.cause.NamePlace.TheVariants.{Symbol}
use Rattle.elf_file.specs.declared.symbol.Row.{Row}
use Rattle.ifs_interface.specs.declared.row.DynRow.{DynRow}
use Rattle.elf_dyn.specs.declared.places.Rows.{Rows}
use Rattle.elf_dyn.specs.declared.places.Strings.{Strings}
use Rattle.elf_dyn.specs.declared.constants.TheConstants.{STB_LOCAL, STV_DEFAULT, STV_PROTECTED}
use Rattle.elf_dyn.specs.Strings.{name_of, unless_empty, bytes_of}

-- all rows lie in the file
abbrev pub RowsLie : List ℕ → Rows → Type 0
RowsLie file r = r.from + r.count * symbol_size r.width ≤ length file

-- row i
abbrev pub row : List ℕ → Rows → ℕ → Row
row file r i = symbol_at file (r.from + i * symbol_size r.width) r.order r.width

-- the high half of st_info is the binding, its low half the type; the low two bits of st_other are the
-- visibility
abbrev pub binding_of : Row → ℕ
binding_of row = row.info / 16

abbrev pub type_of : Row → ℕ
type_of row = row.info % 16

abbrev pub visibility_of : Row → ℕ
visibility_of row = row.other % 4

-- other files may bind to the row, if it has a name
abbrev pub is_candidate : Row → Bool
is_candidate row =
    not (binding_of row == STB_LOCAL) && (visibility_of row == STV_DEFAULT || visibility_of row == STV_PROTECTED)

abbrev pub row_name : List ℕ → Rows → Strings → ℕ → Option (List ℕ)
row_name file r strings i = name_of file strings (row file r i).name

-- the rows behind row 0
abbrev pub later_rows : Rows → List ℕ
later_rows r = places 1 r.count

-- how many rows are candidates
unfoldable pub candidate_count : List ℕ → Rows → ℕ
candidate_count file r = count_by (λ i. is_candidate (row file r i)) (later_rows r)

-- the first candidate whose name is bad
unfoldable pub bad_row : List ℕ → Rows → Strings → Option ℕ
bad_row file r strings = find (λ i. is_candidate (row file r i) && is_none (row_name file r strings i)) (later_rows r)

abbrev pub unless_bad : Option ℕ → Result (Unit {0}) ElfCause
unless_bad None = Ok tt
unless_bad (Some i) = Err (BadName (Symbol i))

-- how many bytes the name of row i has, where it is a candidate
abbrev pub candidate_size : List ℕ → Rows → Strings → ℕ → ℕ
candidate_size file r strings i = if is_candidate (row file r i) then bytes_of (row_name file r strings i) else 0

-- how many bytes the names of the candidates have together
unfoldable pub candidate_bytes : List ℕ → Rows → Strings → ℕ
candidate_bytes file r strings = sum_by (candidate_size file r strings) (later_rows r)

-- a row with its name
abbrev pub named_row : Row → List ℕ → DynRow
named_row row name = record {
  name = name;
  binding = binding_of row;
  kind = type_of row;
  shndx = row.shndx;
  value = row.value;
  size = row.size;
}

-- row i, where it is visible: a candidate whose name isn't empty
abbrev pub visible_row : List ℕ → Rows → Strings → ℕ → Option DynRow
visible_row file r strings i =
    if is_candidate (row file r i) then option_map (named_row (row file r i)) (unless_empty (row_name file r strings i)) else None

-- the visible rows, in order
unfoldable pub visible_rows : List ℕ → Rows → Strings → List DynRow
visible_rows file r strings = filter_map (visible_row file r strings) (later_rows r)
