-- Section headers by the positions of tables and the places of names.
use Rattle.std.specs.List.{enumerate_from}
use Rattle.std.specs.Option.{option_map_or}
use Rattle.std.specs.Prelude.{Bool, List, None, Option, Some, flat_map, if◌then◌else◌, length, map, slice_get, ℕ, ◌++◌, ◌+◌, ◌==◌}
use Rattle.ifs_bytes.specs.declared.form.Order.TheVariants.{Little}
use Rattle.ifs_bytes.specs.declared.form.Width.TheVariants.{W64}
use Rattle.elf_file.specs.Written.{section_bytes}
use Rattle.elf_file.specs.declared.section.SectionHeader.{SectionHeader}
use Rattle.elf_object.specs.declared.constants.TheConstants.{SHT_STRTAB}
use Rattle.link_core.specs.declared.layout.Layout.{Layout}
use Rattle.link_core.specs.declared.layout.OutSection.{OutSection}
use Rattle.link_core.specs.Headers.{names_offset, null_section, offset_of}
use Rattle.link_core.specs.Places.{table_position}
use Rattle.link_core.specs.Planned.{Planned}
use Rattle.link_placed.specs.declared.table.Table.{Table}
use Rattle.link_placed.specs.declared.table.Table.TheVariants as tables
use Rattle.link_placed.specs.Tables.{table_name}
use Rattle.link_where.specs.declared.tables.TablePositions.{TablePositions}
use Rattle.link_where.specs.Tables.{positions}

-- ---- tables

-- the first whose test holds
abbrev pub table_by : Bool → Bool → Bool → Bool → Bool → Bool → Bool → Bool → Bool → Bool → Option Table
table_by interp dynsym dynstr hash rela_dyn rela_plt plt dynamic got got_plt =
    if interp then Some tables.Interp
    else (if dynsym then Some tables.Dynsym
    else (if dynstr then Some tables.Dynstr
    else (if hash then Some tables.Hash
    else (if rela_dyn then Some tables.RelaDyn
    else (if rela_plt then Some tables.RelaPlt
    else (if plt then Some tables.Plt
    else (if dynamic then Some tables.Dynamic
    else (if got then Some tables.Got
    else (if got_plt then Some tables.GotPlt
    else None)))))))))

-- the table at a position
abbrev pub table_at : TablePositions → ℕ → Option Table
table_at at i =
    table_by (i == at.interp) (i == at.dynsym) (i == at.dynstr) (i == at.hash) (i == at.rela_dyn) (i == at.rela_plt)
    (i == at.plt) (i == at.dynamic) (i == at.got) (i == at.got_plt)

abbrev pub table_entry_size : Table → ℕ
table_entry_size tables.Interp = 0
table_entry_size tables.Dynsym = 24
table_entry_size tables.Dynstr = 0
table_entry_size tables.Hash = 4
table_entry_size tables.RelaDyn = 24
table_entry_size tables.RelaPlt = 24
table_entry_size tables.Plt = 16
table_entry_size tables.Dynamic = 16
table_entry_size tables.Got = 8
table_entry_size tables.GotPlt = 8

abbrev pub entry_size : Option Table → ℕ
entry_size None = 0
entry_size (Some table) = table_entry_size table

-- the table of strings or of symbols that a table speaks of
abbrev pub table_linked : Table → Option Table
table_linked tables.Interp = None
table_linked tables.Dynsym = Some tables.Dynstr
table_linked tables.Dynstr = None
table_linked tables.Hash = Some tables.Dynsym
table_linked tables.RelaDyn = Some tables.Dynsym
table_linked tables.RelaPlt = Some tables.Dynsym
table_linked tables.Plt = None
table_linked tables.Dynamic = Some tables.Dynstr
table_linked tables.Got = None
table_linked tables.GotPlt = None

abbrev pub linked_to : Option Table → Option Table
linked_to None = None
linked_to (Some table) = table_linked table

abbrev pub table_info : Table → ℕ
table_info tables.Interp = 0
table_info tables.Dynsym = 1
table_info tables.Dynstr = 0
table_info tables.Hash = 0
table_info tables.RelaDyn = 0
table_info tables.RelaPlt = 0
table_info tables.Plt = 0
table_info tables.Dynamic = 0
table_info tables.Got = 0
table_info tables.GotPlt = 0

abbrev pub info_of : Option Table → ℕ
info_of None = 0
info_of (Some table) = table_info table

-- the number of a table among the section headers
abbrev pub number_of : Planned → Option Table → ℕ
number_of j None = 0
number_of j (Some table) = table_position j (table_name table) + 1

-- ---- rows

-- `name_in` of the places of all names is `string_place`
abbrev pub name_in : List ℕ → ℕ → ℕ
name_in starts i = option_map_or (λ at. at) (slice_get starts i) 0

abbrev pub row_in : List ℕ → Planned → ℕ × OutSection → SectionHeader
row_in starts j placed = record {
  name = name_in starts placed.0;
  kind = placed.1.kind;
  flags = placed.1.flags;
  addr = placed.1.address;
  offset = offset_of j placed.1.address;
  size = placed.1.size;
  link = number_of j (linked_to (table_at (positions j) placed.0));
  info = info_of (table_at (positions j) placed.0);
  align = placed.1.align;
  entsize = entry_size (table_at (positions j) placed.0);
}

-- .shstrtab is behind all others, and its name the last of its strings
abbrev pub names_row : List ℕ → Planned → Layout → SectionHeader
names_row starts j l = record {
  name = name_in starts (length l.sections);
  kind = SHT_STRTAB;
  flags = 0;
  addr = 0;
  offset = names_offset j l;
  size = name_in starts (length l.sections) + 10;
  link = 0;
  info = 0;
  align = 1;
  entsize = 0;
}

abbrev pub row_bytes : SectionHeader → List ℕ
row_bytes row = section_bytes row Little W64

abbrev pub rows_bytes : List SectionHeader → List ℕ
rows_bytes rows = flat_map row_bytes rows

-- ---- all rows

unfoldable pub all_bytes : List ℕ → Planned → Layout → List ℕ
all_bytes starts j l =
    row_bytes null_section
    ++ rows_bytes (map (row_in starts j) (enumerate_from 0 l.sections))
    ++ row_bytes (names_row starts j l)
