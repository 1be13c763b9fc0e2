-- A library by the bytes of its file, or the first cause why it can't be read.
use Rattle.std.specs.Prelude.{◌≡◌, ℕ, true, ◌+◌, ◌==◌, nat_le, List, Option, Some, None, Result, Ok}
use Rattle.ifs_bytes.specs.Outcome.{◌>>=◌, check}
use Rattle.elf_file.specs.Header.{header_of}
use Rattle.elf_file.specs.declared.cause.ElfCause.{ElfCause}
use Rattle.elf_file.specs.declared.cause.ElfCause.TheVariants.{WrongKind, TooMany, NamesTooLarge}
use Rattle.elf_file.specs.declared.header.Header.{Header}
use Rattle.elf_file.specs.declared.section.SectionHeader.{SectionHeader}
use Rattle.ifs_interface.specs.Library.{LibraryRecord}
use Rattle.elf_dyn.specs.declared.places.Places.{Places}
use Rattle.elf_dyn.specs.declared.constants.TheConstants.{ET_DYN, SHT_DYNAMIC, SHT_DYNSYM, MOST_ROWS, MOST_NAME_BYTES}
use Rattle.elf_dyn.specs.Sections.{first_section, places_by_sections}
use Rattle.elf_dyn.specs.Segments.{places_by_segments}
use Rattle.elf_dyn.specs.Entries as entries
use Rattle.elf_dyn.specs.Entries.{EntriesLie, entry_count, bad_entry, soname_of, needed_of, needed_bytes, needed_count, defines_versions}
use Rattle.ifs_bytes.specs.Carried.{carried}
use Rattle.elf_dyn.specs.Rank.{are_bytes}
use Rattle.elf_dyn.specs.Rows as rows
use Rattle.elf_dyn.specs.Rows.{RowsLie, candidate_count, bad_row, candidate_bytes, visible_rows}
use Rattle.elf_dyn.specs.Strings.{StringsLie, bytes_of}

-- all of the parts lie in the file
pub record PlacesLie (file : List ℕ) (p : Places) : Type 0 where
  pub entries_lie : EntriesLie file p.entries
  pub entry_strings_lie : StringsLie file p.entry_strings
  pub rows_lie : RowsLie file p.rows
  pub row_strings_lie : StringsLie file p.row_strings

-- by sections where both are there, else by segments
abbrev pub places_by : List ℕ → Header → Option SectionHeader → Option SectionHeader → Result Places ElfCause
places_by file h (Some dynamics) (Some symbols) = places_by_sections file h dynamics symbols
places_by file h None symbols = places_by_segments file h
places_by file h (Some dynamics) None = places_by_segments file h

unfoldable pub places_of : List ℕ → Header → Result Places ElfCause
places_of file h = places_by file h (first_section file h SHT_DYNAMIC) (first_section file h SHT_DYNSYM)

-- how many candidates and DT_NEEDED entries there are
unfoldable pub listed_count : List ℕ → Places → ℕ → ℕ
listed_count file p n = candidate_count file p.rows + needed_count file p.entries n

-- how many bytes the names of the candidates, the soname and the needed libraries have together
unfoldable pub name_bytes : List ℕ → Places → ℕ → ℕ
name_bytes file p n =
    carried (candidate_bytes file p.rows p.row_strings + (bytes_of (soname_of file p.entries p.entry_strings n) + needed_bytes file p.entries p.entry_strings n))

-- what can be wrong with the library whose parts stand at these places, of whose entries n count
unfoldable pub checked : List ℕ → Places → ℕ → Result (Unit {0}) ElfCause
checked file p n = do
  _ ← entries.unless_bad (bad_entry file p.entries p.entry_strings n)
  _ ← check (nat_le (listed_count file p n) MOST_ROWS) (TooMany (listed_count file p n))
  _ ← rows.unless_bad (bad_row file p.rows p.row_strings)
  check (nat_le (name_bytes file p n) MOST_NAME_BYTES) (NamesTooLarge (name_bytes file p n))

-- that library
unfoldable pub library_at : List ℕ → Header → Places → ℕ → LibraryRecord
library_at file h p n = record {
  machine = h.machine;
  order = h.order;
  width = h.width;
  soname = soname_of file p.entries p.entry_strings n;
  needed = needed_of file p.entries p.entry_strings n;
  rows = visible_rows file p.rows p.row_strings;
  versioned = defines_versions file p.entries n;
}

-- the library of the file, or the first cause
unfoldable pub library_of : List ℕ → Result LibraryRecord ElfCause
library_of file = do
  h ← header_of file
  _ ← check (h.kind == ET_DYN) WrongKind
  p ← places_of file h
  _ ← checked file p (entry_count file p.entries)
  Ok (library_at file h p (entry_count file p.entries))

-- the library is that of a file
pub record IsRead (l : LibraryRecord) : Type 0 where
  pub file : List ℕ
  pub bytes : are_bytes file ≡ true
  pub is_its : library_of file ≡ Ok l
