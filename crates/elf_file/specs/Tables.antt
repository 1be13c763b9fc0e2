-- The records of ELF files: how many bytes each has, and where in it its fields stand (gABI, "ELF Header",
-- "Section Header", "Program Header", "Symbol Table", "Dynamic Section"). Places are counted in bytes from
-- the start of the record. The two widths differ in the size w of a word, an address, an offset or a size
-- of the file; and three fields stand elsewhere among their record's fields.
use Rattle.std.specs.Prelude.{ℕ, ◌+◌, ◌*◌, List}
use Rattle.ifs_bytes.specs.Field.{word_size, number_at}
use Rattle.ifs_bytes.specs.declared.form.Order.{Order}
use Rattle.ifs_bytes.specs.declared.form.Width.{Width}
use Rattle.ifs_bytes.specs.declared.form.Width.TheVariants.{W32, W64}
use Rattle.elf_file.specs.declared.fields.FileHeader.{FileHeader}
use Rattle.elf_file.specs.declared.section.SectionHeader.{SectionHeader}
use Rattle.elf_file.specs.declared.segment.Segment.{Segment}
use Rattle.elf_file.specs.declared.symbol.Row.{Row}
use Rattle.elf_file.specs.declared.dynamic.Dyn.{Dyn}

abbrev pub header_size : Width → ℕ
header_size W32 = 52
header_size W64 = 64

abbrev pub section_size : Width → ℕ
section_size W32 = 40
section_size W64 = 64

abbrev pub segment_size : Width → ℕ
segment_size W32 = 32
segment_size W64 = 56

abbrev pub symbol_size : Width → ℕ
symbol_size W32 = 16
symbol_size W64 = 24

abbrev pub dynamic_size : Width → ℕ
dynamic_size W32 = 8
dynamic_size W64 = 16

-- p_flags stands before p_align, or behind p_type
abbrev pub flags_place : Width → ℕ
flags_place W32 = 24
flags_place W64 = 4

abbrev pub align_place : Width → ℕ
align_place W32 = 28
align_place W64 = 48

-- st_info, st_other and st_shndx stand at the end, or behind st_name
abbrev pub info_place : Width → ℕ
info_place W32 = 12
info_place W64 = 4

-- the fields of the file header behind e_ident
unfoldable pub file_header_at : List ℕ → ℕ → Order → Width → FileHeader
file_header_at bytes at order width =
    let w = word_size width in
    record {
      kind = number_at bytes (at + 16) 2 order;
      machine = number_at bytes (at + 18) 2 order;
      entry = number_at bytes (at + 24) w order;
      phoff = number_at bytes (at + (24 + w)) w order;
      shoff = number_at bytes (at + (24 + 2 * w)) w order;
      phentsize = number_at bytes (at + (30 + 3 * w)) 2 order;
      phnum = number_at bytes (at + (32 + 3 * w)) 2 order;
      shentsize = number_at bytes (at + (34 + 3 * w)) 2 order;
      shnum = number_at bytes (at + (36 + 3 * w)) 2 order;
      shstrndx = number_at bytes (at + (38 + 3 * w)) 2 order;
    }

-- the section header at an offset
unfoldable pub section_header_at : List ℕ → ℕ → Order → Width → SectionHeader
section_header_at bytes at order width =
    let w = word_size width in
    record {
      name = number_at bytes at 4 order;
      kind = number_at bytes (at + 4) 4 order;
      flags = number_at bytes (at + 8) w order;
      addr = number_at bytes (at + (8 + w)) w order;
      offset = number_at bytes (at + (8 + 2 * w)) w order;
      size = number_at bytes (at + (8 + 3 * w)) w order;
      link = number_at bytes (at + (8 + 4 * w)) 4 order;
      info = number_at bytes (at + (12 + 4 * w)) 4 order;
      align = number_at bytes (at + (16 + 4 * w)) w order;
      entsize = number_at bytes (at + (16 + 5 * w)) w order;
    }

-- the program header at an offset
unfoldable pub segment_at : List ℕ → ℕ → Order → Width → Segment
segment_at bytes at order width =
    let w = word_size width in
    record {
      kind = number_at bytes at 4 order;
      flags = number_at bytes (at + flags_place width) 4 order;
      offset = number_at bytes (at + w) w order;
      vaddr = number_at bytes (at + 2 * w) w order;
      paddr = number_at bytes (at + 3 * w) w order;
      filesz = number_at bytes (at + 4 * w) w order;
      memsz = number_at bytes (at + 5 * w) w order;
      align = number_at bytes (at + align_place width) w order;
    }

-- the symbol row at an offset
unfoldable pub symbol_at : List ℕ → ℕ → Order → Width → Row
symbol_at bytes at order width =
    let w = word_size width in
    record {
      name = number_at bytes at 4 order;
      info = number_at bytes (at + info_place width) 1 order;
      other = number_at bytes (at + (info_place width + 1)) 1 order;
      shndx = number_at bytes (at + (info_place width + 2)) 2 order;
      value = number_at bytes (at + w) w order;
      size = number_at bytes (at + 2 * w) w order;
    }

-- the dynamic entry at an offset
unfoldable pub dynamic_at : List ℕ → ℕ → Order → Width → Dyn
dynamic_at bytes at order width =
    let w = word_size width in
    record { tag = number_at bytes at w order; value = number_at bytes (at + w) w order }
