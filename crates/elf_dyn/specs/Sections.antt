-- A library's parts by its section headers (gABI, "Section Header").
use Rattle.std.specs.Prelude.{ℕ, ◌/◌, ◌==◌, nat_lt, List, Option, option_map, Result, Ok}
use Rattle.std.specs.List.{find}
use Rattle.ifs_bytes.specs.Field.{lies}
use Rattle.ifs_bytes.specs.Outcome.{◌>>=◌, check}
use Rattle.ifs_bytes.specs.Places.{places}
use Rattle.elf_file.specs.Header.{section_in}
use Rattle.elf_file.specs.Tables.{symbol_size, dynamic_size}
use Rattle.elf_file.specs.declared.cause.ElfCause.{ElfCause}
use Rattle.elf_file.specs.declared.cause.ElfCause.TheVariants.{BadHeader, Truncated}
use Rattle.elf_file.specs.declared.header.Header.{Header}
use Rattle.elf_file.specs.declared.section.SectionHeader.{SectionHeader}
use Rattle.elf_dyn.specs.declared.places.Strings.{Strings}
use Rattle.elf_dyn.specs.declared.places.Places.{Places}
use Rattle.elf_dyn.specs.declared.constants.TheConstants.{SHT_STRTAB}

-- the first section of a type
unfoldable pub first_section : List ℕ → Header → ℕ → Option SectionHeader
first_section file h kind = option_map (section_in file h) (find (λ i. (section_in file h i).kind == kind) (places 0 h.shnum))

-- the section of a number, where it is a string table
unfoldable pub string_section : List ℕ → Header → ℕ → Result SectionHeader ElfCause
string_section file h link = do
  _ ← check (nat_lt link h.shnum) BadHeader
  _ ← check ((section_in file h link).kind == SHT_STRTAB) BadHeader
  Ok (section_in file h link)

-- the strings of a table: the table lies in the file, its sh_link names a string table, and that lies in the file
unfoldable pub strings_by_section : List ℕ → Header → SectionHeader → Result Strings ElfCause
strings_by_section file h table = do
  _ ← check (lies file table.offset table.size) (Truncated table.offset)
  strings ← string_section file h table.link
  _ ← check (lies file strings.offset strings.size) (Truncated strings.offset)
  Ok (record { from = strings.offset; size = strings.size })

-- the places by the dynamic section and the section of dynamic symbols, the former looked at first
unfoldable pub places_by_sections : List ℕ → Header → SectionHeader → SectionHeader → Result Places ElfCause
places_by_sections file h dynamics symbols = do
  entry_strings ← strings_by_section file h dynamics
  row_strings ← strings_by_section file h symbols
  Ok (record {
    entries = record { order = h.order; width = h.width; from = dynamics.offset; room = dynamics.size / dynamic_size h.width };
    entry_strings = entry_strings;
    rows = record { order = h.order; width = h.width; from = symbols.offset; count = symbols.size / symbol_size h.width };
    row_strings = row_strings;
  })
