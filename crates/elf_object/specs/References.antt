-- The references of an object (gABI, "Relocation"): entries of 24 bytes, in a table that names by sh_info the
-- section that is patched.
use Rattle.std.specs.Prelude.{◌≡◌, ◌<◌, length, slice_index_or, ℕ, ◌+◌, ◌*◌, ◌/◌, ◌%◌, Bool, false, not, ◌==◌, ◌&&◌, ◌||◌, nat_lt, nat_le, if◌then◌else◌, List, [], map, Option, Some, None, is_some}
use Rattle.std.specs.Int.{cast_signed, w64}
use Rattle.std.specs.List.{find, flat_map}
use Rattle.ifs_bytes.specs.Field.{number_at}
use Rattle.ifs_bytes.specs.Places.{places}
use Rattle.ifs_bytes.specs.declared.form.Order.TheVariants.{Little}
use Rattle.elf_file.specs.Header.{section_in}
use Rattle.elf_file.specs.declared.header.Header.{Header}
use Rattle.elf_file.specs.declared.section.SectionHeader.{SectionHeader}
use Rattle.elf_object.specs.declared.constants.TheConstants.{SHT_REL, SHT_RELA, ENTRY_SIZE, MOST_ENTRIES}
use Rattle.elf_object.specs.declared.parts.Parts.{Parts}
use Rattle.elf_object.specs.declared.reference.Reference.{Reference}
use Rattle.elf_object.specs.Sections.{is_loadable_at}
use Rattle.elf_object.specs.Symbols.{row_count}

abbrev pub is_table : SectionHeader → Bool
is_table s = s.kind == SHT_REL || s.kind == SHT_RELA

-- the section is a table for section number s
abbrev pub is_table_for : ℕ → SectionHeader → Bool
is_table_for s table = is_table table && table.info == s

-- a table for one of so many sections
abbrev pub names_section : ℕ → SectionHeader → Bool
names_section count table = is_table table && nat_lt table.info count

-- the first table for section s
unfoldable pub first_table : List ℕ → Header → ℕ → Option ℕ
first_table file h s = find (λ i. is_table_for s (section_in file h i)) (places 0 h.shnum)

-- tables has for each section the first table for it, of those from number i on
pub record AreFirstFrom (file : List ℕ) (h : Header) (i : ℕ) (tables : List (Option ℕ)) : Type 0 where
  pub count : length tables ≡ h.shnum
  pub first : (s : ℕ) → s < h.shnum → slice_index_or tables s None ≡ find (λ j. is_table_for s (section_in file h j)) (places i h.shnum)

abbrev pub is_place : Option ℕ → ℕ → Bool
is_place None i = false
is_place (Some place) i = i == place

-- how many entries a table has
abbrev pub entry_count : SectionHeader → ℕ
entry_count table = table.size / ENTRY_SIZE

-- entry k of a table: r_offset, r_info, whose high half is the symbol and whose low half the type, r_addend
unfoldable pub entry_of : List ℕ → SectionHeader → ℕ → Reference
entry_of file table k =
    let at = table.offset + k * ENTRY_SIZE in
    record {
      section = table.info;
      index = k;
      offset = number_at file at 8 Little;
      symbol = number_at file (at + 12) 4 Little;
      kind = number_at file (at + 8) 4 Little;
      addend = cast_signed w64 (number_at file (at + 16) 8 Little);
    }

-- the first entry whose symbol is no row
unfoldable pub stray_entry : List ℕ → Parts → SectionHeader → Option ℕ
stray_entry file p table =
    find (λ k. nat_le (row_count p) (entry_of file table k).symbol) (places 0 (entry_count table))

-- section i, a table, has no addends, comes behind another for its section, has part of an entry or more than
-- can be numbered, is for another symbol table, or has an entry whose symbol is no row
unfoldable pub is_bad_as_table : List ℕ → Header → Parts → ℕ → Bool
is_bad_as_table file h p i =
    let table = section_in file h i in
    table.kind == SHT_REL || not (is_place (first_table file h table.info) i)
    || not (table.size % ENTRY_SIZE == 0) || nat_lt MOST_ENTRIES (entry_count table)
    || not (is_place p.table table.link) || is_some (stray_entry file p table)

-- section i is a bad table of a loadable section
abbrev pub is_bad_table : List ℕ → Header → Parts → ℕ → Bool
is_bad_table file h p i =
    is_table (section_in file h i) && is_loadable_at file h p (section_in file h i).info
    && is_bad_as_table file h p i

-- the first one
unfoldable pub bad_table : List ℕ → Header → Parts → Option ℕ
bad_table file h p = find (is_bad_table file h p) (places 0 h.shnum)

abbrev pub entries_of : List ℕ → Header → Option ℕ → List Reference
entries_of file h None = []
entries_of file h (Some i) =
    map (entry_of file (section_in file h i)) (places 0 (entry_count (section_in file h i)))

-- the references of section s: the entries of its table, if it is loadable
unfoldable pub references_at : List ℕ → Header → Parts → ℕ → List Reference
references_at file h p s = if is_loadable_at file h p s then entries_of file h (first_table file h s) else []

-- the references, in order of section and index
unfoldable pub references_of : List ℕ → Header → Parts → List Reference
references_of file h p = flat_map (references_at file h p) (places 0 h.shnum)
