-- What was written is read back, whatever stands before it and behind it.
use Rattle.std.specs.Prelude.{◌≡◌, ℕ, List, ◌++◌, length, Ok}
use Rattle.ifs_bytes.specs.Field.{word_size}
use Rattle.ifs_bytes.specs.declared.form.Order.{Order}
use Rattle.ifs_bytes.specs.declared.form.Width.{Width}
use Rattle.elf_file.specs.ElfFile.{HeaderFits}
use Rattle.elf_file.specs.Header.{header_of}
use Rattle.elf_file.specs.Tables.{header_size, section_size, segment_size, symbol_size, dynamic_size, section_header_at, segment_at, symbol_at, dynamic_at}
use Rattle.elf_file.specs.Written.{AllFit, HeaderStands, IsPlain, header_fields, section_fields, segment_fields, symbol_fields, dynamic_fields, header_bytes, section_bytes, segment_bytes, symbol_bytes, dynamic_bytes}
use Rattle.elf_file.specs.declared.header.Header.{Header}
use Rattle.elf_file.specs.declared.section.SectionHeader.{SectionHeader}
use Rattle.elf_file.specs.declared.segment.Segment.{Segment}
use Rattle.elf_file.specs.declared.symbol.Row.{Row}
use Rattle.elf_file.specs.declared.dynamic.Dyn.{Dyn}

abbrev pub SectionsAreReadBack : Type 0
SectionsAreReadBack =
    (s : SectionHeader) (order : Order) (width : Width) (before after : List ℕ) → AllFit (section_fields s (word_size width)) → section_header_at (before ++ section_bytes s order width ++ after) (length before) order width ≡ s

abbrev pub SegmentsAreReadBack : Type 0
SegmentsAreReadBack =
    (s : Segment) (order : Order) (width : Width) (before after : List ℕ) → AllFit (segment_fields s width) → segment_at (before ++ segment_bytes s order width ++ after) (length before) order width ≡ s

abbrev pub RowsAreReadBack : Type 0
RowsAreReadBack =
    (r : Row) (order : Order) (width : Width) (before after : List ℕ) → AllFit (symbol_fields r width) → symbol_at (before ++ symbol_bytes r order width ++ after) (length before) order width ≡ r

abbrev pub EntriesAreReadBack : Type 0
EntriesAreReadBack =
    (d : Dyn) (order : Order) (width : Width) (before after : List ℕ) → AllFit (dynamic_fields d (word_size width)) → dynamic_at (before ++ dynamic_bytes d order width ++ after) (length before) order width ≡ d

abbrev pub HeadersStand : Type 0
HeadersStand =
    (h : Header) (before after : List ℕ) → AllFit (header_fields h (word_size h.width)) → HeaderStands (before ++ header_bytes h ++ after) (length before) h

-- a file that begins with a written header, and has the tables that it names, has that header
abbrev pub HeadersAreReadBack : Type 0
HeadersAreReadBack =
    (h : Header) (after : List ℕ) → AllFit (header_fields h (word_size h.width)) → IsPlain h → HeaderFits (header_bytes h ++ after) h → header_of (header_bytes h ++ after) ≡ Ok h

-- a written record has the size of the width's records
pub record SizesAreKept : Type 0 where
  pub headers : (h : Header) → length (header_bytes h) ≡ header_size h.width
  pub sections : (s : SectionHeader) (order : Order) (width : Width) → length (section_bytes s order width) ≡ section_size width
  pub segments : (s : Segment) (order : Order) (width : Width) → length (segment_bytes s order width) ≡ segment_size width
  pub rows : (r : Row) (order : Order) (width : Width) → length (symbol_bytes r order width) ≡ symbol_size width
  pub entries : (d : Dyn) (order : Order) (width : Width) → length (dynamic_bytes d order width) ≡ dynamic_size width
