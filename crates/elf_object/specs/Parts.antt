-- Where the parts of an object stand in its file (gABI, "Sections"): the names of its sections, its symbol
-- table with the names of its rows, and the section numbers of rows whose field has no room for them.
use Rattle.std.specs.Prelude.{◌≡◌, ℕ, ◌+◌, ◌*◌, ◌/◌, ◌≤◌, ◌<◌, Bool, true, not, ◌==◌, ◌&&◌, ◌||◌, nat_lt, nat_le, List, length, slice_range, Option, Some, None, is_none, Result, Ok, Err}
use Rattle.std.specs.Int.{is_power_of_two}
use Rattle.std.specs.List.{find}
use Rattle.ifs_bytes.specs.Field.{lies, number_at}
use Rattle.ifs_bytes.specs.Outcome.{◌>>=◌, check}
use Rattle.ifs_bytes.specs.Places.{places}
use Rattle.ifs_bytes.specs.declared.form.Order.TheVariants.{Little}
use Rattle.elf_file.specs.Header.{section_in}
use Rattle.elf_file.specs.declared.cause.ElfCause.TheVariants.{BadHeader}
use Rattle.elf_file.specs.declared.header.Header.{Header}
use Rattle.elf_file.specs.declared.section.SectionHeader.{SectionHeader}
use Rattle.elf_object.specs.declared.cause.ObjectCause.{ObjectCause}
use Rattle.elf_object.specs.declared.cause.ObjectCause.TheVariants.{Elf}
use Rattle.elf_object.specs.declared.constants.TheConstants.{SHT_NULL, SHT_NOBITS, SHT_STRTAB, SHT_SYMTAB, SHT_SYMTAB_SHNDX, MOST_ALIGN}
use Rattle.elf_object.specs.declared.parts.Span.{Span}
use Rattle.elf_object.specs.declared.parts.Parts.{Parts}

-- the bytes of a section
abbrev pub span_of : SectionHeader → Span
span_of s = record { from = s.offset; size = s.size }

abbrev pub nowhere : Span
nowhere = record { from = 0; size = 0 }

abbrev pub bytes_in : List ℕ → Span → List ℕ
bytes_in file span = slice_range file span.from (span.from + span.size)

abbrev pub SpanLies : List ℕ → Span → Type 0
SpanLies file span = span.from + span.size ≤ length file

-- the words of 32 bits in a span
abbrev pub word_count : Span → ℕ
word_count span = span.size / 4

abbrev pub word_in : List ℕ → Span → ℕ → ℕ
word_in file span k = number_at file (span.from + k * 4) 4 Little

-- whether a section has bytes in the file
abbrev pub has_bytes : SectionHeader → Bool
has_bytes s = not (s.kind == SHT_NULL || s.kind == SHT_NOBITS)

-- its bytes aren't all in the file
abbrev pub is_outside : List ℕ → SectionHeader → Bool
is_outside file s = has_bytes s && not (lies file s.offset s.size)

-- the first section whose bytes aren't all in the file
unfoldable pub outside : List ℕ → Header → Option ℕ
outside file h = find (λ i. is_outside file (section_in file h i)) (places 0 h.shnum)

-- 0, or a power of two up to MOST_ALIGN
abbrev pub is_alignment : ℕ → Bool
is_alignment n = n == 0 || (nat_le n MOST_ALIGN && is_power_of_two n)

-- the first section with another alignment
unfoldable pub misaligned : List ℕ → Header → Option ℕ
misaligned file h = find (λ i. not (is_alignment (section_in file h i).align)) (places 0 h.shnum)

-- the first section of a type
unfoldable pub first_of : List ℕ → Header → ℕ → Option ℕ
first_of file h kind = find (λ i. (section_in file h i).kind == kind) (places 0 h.shnum)

-- the bytes of the section of a number, where it is a string table
unfoldable pub strings_of : List ℕ → Header → ℕ → Result Span ObjectCause
strings_of file h link = do
  _ ← check (nat_lt link h.shnum) (Elf BadHeader)
  _ ← check ((section_in file h link).kind == SHT_STRTAB) (Elf BadHeader)
  Ok (span_of (section_in file h link))

-- the bytes of a section, if there is one
abbrev pub span_if : List ℕ → Header → Option ℕ → Span
span_if file h None = nowhere
span_if file h (Some i) = span_of (section_in file h i)

-- the parts, by the names of sections and the symbol table; without that table there are no rows
unfoldable pub parts_with : List ℕ → Header → Span → Option ℕ → Result Parts ObjectCause
parts_with file h names None =
    Ok (record { names = names; table = None; rows = nowhere; strings = nowhere; numbers = nowhere })
parts_with file h names (Some i) = do
  strings ← strings_of file h (section_in file h i).link
  Ok (record {
    names = names;
    table = Some i;
    rows = span_of (section_in file h i);
    strings = strings;
    numbers = span_if file h (first_of file h SHT_SYMTAB_SHNDX);
  })

-- the parts: each alignment is one, and both string tables are string tables
unfoldable pub parts_of : List ℕ → Header → Result Parts ObjectCause
parts_of file h = do
  _ ← check (is_none (misaligned file h)) (Elf BadHeader)
  names ← strings_of file h h.shstrndx
  parts_with file h names (first_of file h SHT_SYMTAB)

-- all sections with bytes lie in the file
abbrev pub SectionsLie : List ℕ → Header → Type 0
SectionsLie file h =
    (i : ℕ) → i < h.shnum → has_bytes (section_in file h i) ≡ true → SpanLies file (span_of (section_in file h i))

-- so do the parts
pub record PartsLie (file : List ℕ) (h : Header) (p : Parts) : Type 0 where
  pub sections_lie : SectionsLie file h
  pub names_lie : SpanLies file p.names
  pub rows_lie : SpanLies file p.rows
  pub strings_lie : SpanLies file p.strings
  pub numbers_lie : SpanLies file p.numbers

-- there is none, or the cause that names it
abbrev pub unless_some : Option ℕ → (ℕ → ObjectCause) → Result (Unit {0}) ObjectCause
unless_some None cause = Ok tt
unless_some (Some i) cause = Err (cause i)
