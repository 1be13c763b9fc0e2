-- The file header (gABI, "ELF Header", "Section Header"): what it says, or the first cause why the file
-- can't be read. The causes come in the order of these conditions, each of which is a fact on places of
-- the whole file; no sum wraps.
use Rattle.std.specs.Prelude.{ℕ, ◌+◌, ◌*◌, ◌==◌, ◌&&◌, ◌||◌, not, nat_le, nat_eq, Bool, List, [], ◌∷◌, ◌++◌, length, slice_index, codes, Option, Some, None, Result, Ok, if◌then◌else◌}
use Rattle.std.specs.List.{starts_with}
use Rattle.std.specs.Option.{ok_or}
use Rattle.ifs_bytes.specs.Field.{lies}
use Rattle.ifs_bytes.specs.Outcome.{◌>>=◌, check}
use Rattle.ifs_bytes.specs.declared.form.Order.{Order}
use Rattle.ifs_bytes.specs.declared.form.Order.TheVariants.{Little, Big}
use Rattle.ifs_bytes.specs.declared.form.Width.{Width}
use Rattle.ifs_bytes.specs.declared.form.Width.TheVariants.{W32, W64}
use Rattle.elf_file.specs.Tables.{header_size, section_size, segment_size, file_header_at, section_header_at, segment_at}
use Rattle.elf_file.specs.declared.cause.ElfCause.{ElfCause}
use Rattle.elf_file.specs.declared.cause.ElfCause.TheVariants.{NotElf, BadHeader, Truncated, Archive}
use Rattle.elf_file.specs.declared.fields.FileHeader.{FileHeader}
use Rattle.elf_file.specs.declared.form.Form.{Form}
use Rattle.elf_file.specs.declared.header.Header.{Header}
use Rattle.elf_file.specs.declared.section.SectionHeader.{SectionHeader}
use Rattle.elf_file.specs.declared.segment.Segment.{Segment}

-- an archive of objects, or one that names its objects' files, begins with a line of its own
abbrev pub is_archive : List ℕ → Bool
is_archive file =
    starts_with nat_eq file (codes "!<arch>" ++ 10 ∷ []) || starts_with nat_eq file (codes "!<thin>" ++ 10 ∷ [])

abbrev pub has_magic : List ℕ → Bool
has_magic file = starts_with nat_eq file (127 ∷ codes "ELF")

-- EI_CLASS
abbrev pub width_of : ℕ → Option Width
width_of class = if class == 1 then Some W32 else (if class == 2 then Some W64 else None)

-- EI_DATA
abbrev pub order_of : ℕ → Option Order
order_of code = if code == 1 then Some Little else (if code == 2 then Some Big else None)

-- the form of the file by e_ident, whose bytes 4, 5 and 6 are EI_CLASS, EI_DATA and EI_VERSION
unfoldable pub form_of : List ℕ → Result Form ElfCause
form_of file = do
  _ ← check (nat_le 16 (length file)) (Truncated 0)
  w ← ok_or (width_of (slice_index file 4)) BadHeader
  o ← ok_or (order_of (slice_index file 5)) BadHeader
  _ ← check (slice_index file 6 == 1) BadHeader
  Ok (record { order = o; width = w })

-- each table has records of the width's size, where the file has that table. A number of program headers
-- that e_phnum has no room for isn't read.
abbrev pub has_known_sizes : FileHeader → Width → Bool
has_known_sizes e width =
    not (e.phnum == 65535) && (e.phnum == 0 || e.phentsize == segment_size width) && (e.shoff == 0 || e.shentsize == section_size width)

-- the number of section headers: e_shnum, or where that is 0 sh_size of the first one
abbrev pub section_count : FileHeader → SectionHeader → ℕ
section_count e first = if e.shnum == 0 then first.size else e.shnum

-- the section of the names of sections: e_shstrndx, or where that is SHN_XINDEX sh_link of the first one
abbrev pub name_section : FileHeader → SectionHeader → ℕ
name_section e first = if e.shstrndx == 65535 then first.link else e.shstrndx

-- both numbers, where the first section header and all of them lie in the file
unfoldable pub counted_sections : List ℕ → FileHeader → Form → Result (ℕ × ℕ) ElfCause
counted_sections file e form = do
  _ ← check (lies file e.shoff (section_size form.width)) (Truncated e.shoff)
  first ← Ok (section_header_at file e.shoff form.order form.width)
  _ ← check (lies file e.shoff (section_count e first * section_size form.width)) (Truncated e.shoff)
  Ok (section_count e first, name_section e first)

-- both numbers: where e_shoff is 0 there are no section headers
abbrev pub sections_of : List ℕ → FileHeader → Form → Result (ℕ × ℕ) ElfCause
sections_of file e form = if e.shoff == 0 then Ok (0, e.shstrndx) else counted_sections file e form

-- the header, where the form of the file and the fields of its file header are known
unfoldable pub tables_of : List ℕ → FileHeader → Form → Result Header ElfCause
tables_of file e form = do
  _ ← check (has_known_sizes e form.width) BadHeader
  _ ← check (lies file e.phoff (e.phnum * segment_size form.width)) (Truncated e.phoff)
  sections ← sections_of file e form
  Ok (record {
    order = form.order;
    width = form.width;
    kind = e.kind;
    machine = e.machine;
    entry_point = e.entry;
    phoff = e.phoff;
    phnum = e.phnum;
    shoff = e.shoff;
    shnum = sections.0;
    shstrndx = sections.1;
  })

-- the header of the file, or the first cause
unfoldable pub header_of : List ℕ → Result Header ElfCause
header_of file = do
  _ ← check (not (is_archive file)) Archive
  _ ← check (has_magic file) NotElf
  form ← form_of file
  _ ← check (lies file 0 (header_size form.width)) (Truncated 0)
  tables_of file (file_header_at file 0 form.order form.width) form

-- section header i, and program header i, of a file with this header
abbrev pub section_in : List ℕ → Header → ℕ → SectionHeader
section_in file h i = section_header_at file (h.shoff + i * section_size h.width) h.order h.width

abbrev pub segment_in : List ℕ → Header → ℕ → Segment
segment_in file h i = segment_at file (h.phoff + i * segment_size h.width) h.order h.width
