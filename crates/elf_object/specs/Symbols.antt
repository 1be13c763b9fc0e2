-- The symbols of an object (gABI, "Symbol Table").
use Rattle.std.specs.Prelude.{ℕ, ◌+◌, ◌*◌, ◌/◌, ◌%◌, ◌<◌, Bool, true, false, not, ◌==◌, ◌&&◌, nat_lt, if◌then◌else◌, List, [], Option, Some, None, is_none, option_and_then, unwrap_or}
use Rattle.std.specs.List.{find}
use Rattle.ifs_bytes.specs.Name.{name_in}
use Rattle.ifs_bytes.specs.Places.{places}
use Rattle.ifs_bytes.specs.declared.form.Order.TheVariants.{Little}
use Rattle.ifs_bytes.specs.declared.form.Width.TheVariants.{W64}
use Rattle.elf_file.specs.Tables.{symbol_at}
use Rattle.elf_file.specs.declared.header.Header.{Header}
use Rattle.elf_file.specs.declared.symbol.Row.{Row}
use Rattle.elf_object.specs.declared.constants.TheConstants.{ROW_SIZE, SHN_LORESERVE, SHN_ABS, SHN_COMMON, SHN_XINDEX, STT_GNU_IFUNC}
use Rattle.elf_object.specs.declared.parts.Parts.{Parts}
use Rattle.elf_object.specs.declared.symbol.ObjPlace.{ObjPlace}
use Rattle.elf_object.specs.declared.symbol.ObjPlace.TheVariants.{Undefined, Absolute, Common, In}
use Rattle.elf_object.specs.declared.symbol.ObjSymbol.{ObjSymbol}
use Rattle.elf_object.specs.Parts.{bytes_in, word_count, word_in, is_alignment}

-- how many rows there are: part of a row at the table's end is none
abbrev pub row_count : Parts → ℕ
row_count p = p.rows.size / ROW_SIZE

abbrev pub all_rows : Parts → List ℕ
all_rows p = places 0 (row_count p)

-- row i
unfoldable pub row_at : List ℕ → Parts → ℕ → Row
row_at file p i = symbol_at file (p.rows.from + i * ROW_SIZE) Little W64

-- its name, which starts and ends within the names of rows
unfoldable pub row_name : List ℕ → Parts → ℕ → Option (List ℕ)
row_name file p i = name_in (bytes_in file p.strings) (row_at file p i).name

-- the first row without a name
unfoldable pub unnamed_row : List ℕ → Parts → Option ℕ
unnamed_row file p = find (λ i. is_none (row_name file p i)) (all_rows p)

-- a symbol in the section of a number, of all sections; number 0 says that it isn't defined
abbrev pub place_in : ℕ → ℕ → Option ObjPlace
place_in count number =
    if number == 0 then Some Undefined else (if nat_lt number count then Some (In number) else None)

-- its section, if it has one, is one of them
abbrev pub Within : ℕ → ObjPlace → Type 0
Within count Undefined = Unit {0}
Within count Absolute = Unit {0}
Within count Common = Unit {0}
Within count (In number) = number < count

-- the number for row i in the table of numbers that have no room in their rows
abbrev pub number_for : List ℕ → Parts → ℕ → Option ℕ
number_for file p i = if nat_lt i (word_count p.numbers) then Some (word_in file p.numbers i) else None

abbrev pub far_place : List ℕ → Header → Parts → ℕ → Option ObjPlace
far_place file h p i = option_and_then (place_in h.shnum) (number_for file p i)

-- the place of row i, by its section number; the value of a common symbol is an alignment
unfoldable pub place_of : List ℕ → Header → Parts → ℕ → Row → Option ObjPlace
place_of file h p i row =
    if row.shndx == SHN_XINDEX then far_place file h p i
    else if row.shndx == SHN_ABS then Some Absolute
    else if row.shndx == SHN_COMMON then (if is_alignment row.value then Some Common else None)
    else if nat_lt row.shndx SHN_LORESERVE then place_in h.shnum row.shndx
    else None

abbrev pub row_place : List ℕ → Header → Parts → ℕ → Option ObjPlace
row_place file h p i = place_of file h p i (row_at file p i)

-- the first row without a place
unfoldable pub unplaced_row : List ℕ → Header → Parts → Option ℕ
unplaced_row file h p = find (λ i. is_none (row_place file h p i)) (all_rows p)

-- the symbol of row i, whose name and place are there
unfoldable pub symbol_of : List ℕ → Header → Parts → ℕ → ObjSymbol
symbol_of file h p i =
    let row = row_at file p i in
    record {
      name = unwrap_or (row_name file p i) [];
      binding = row.info / 16;
      kind = row.info % 16;
      visibility = row.other % 4;
      place = unwrap_or (row_place file h p i) Undefined;
      value = row.value;
      size = row.size;
    }

abbrev pub is_undefined : ObjPlace → Bool
is_undefined Undefined = true
is_undefined Absolute = false
is_undefined Common = false
is_undefined (In number) = false

-- row i defines an indirect function
abbrev pub is_ifunc : List ℕ → Header → Parts → ℕ → Bool
is_ifunc file h p i =
    (row_at file p i).info % 16 == STT_GNU_IFUNC && not (is_undefined (unwrap_or (row_place file h p i) Undefined))

-- the first row that does
unfoldable pub ifunc_row : List ℕ → Header → Parts → Option ℕ
ifunc_row file h p = find (is_ifunc file h p) (all_rows p)
