-- The stub file of an interface: a shared library that offers and wants what the interface says, and has no
-- code and no data (gABI, "ELF Header", "Program Header", "Sections", "Symbol Table", "Dynamic Section",
-- "Hash Table"). Its parts stand in the order file header, program headers, .dynsym, .dynstr, .hash,
-- .dynamic, .shstrtab, section headers. .dynsym, .hash, .dynamic and the section headers start at multiples of
-- a word; what is between two parts is zero, and an address is the offset in the file.
use Rattle.std.specs.Prelude.{ℕ, ◌+◌, ◌-◌, ◌*◌, ◌%◌, ◌==◌, ◌||◌, if◌then◌else◌, Bool, List, [], ◌∷◌, ◌++◌, length, codes, replicate, unwrap_or, Option, Some, None, sum_by}
use Rattle.std.specs.List.{flat_map}
use Rattle.ifs_bytes.specs.Field.{word_size, number_bytes}
use Rattle.ifs_bytes.specs.Places.{places}
use Rattle.ifs_bytes.specs.declared.form.Order.{Order}
use Rattle.ifs_bytes.specs.declared.form.Width.{Width}
use Rattle.elf_file.specs.Tables.{header_size, segment_size, symbol_size, dynamic_size}
use Rattle.elf_file.specs.Written.{header_bytes, segment_bytes, symbol_bytes, dynamic_bytes, section_bytes}
use Rattle.elf_file.specs.declared.header.Header.{Header}
use Rattle.elf_file.specs.declared.segment.Segment.{Segment}
use Rattle.elf_file.specs.declared.section.SectionHeader.{SectionHeader}
use Rattle.elf_file.specs.declared.symbol.Row.{Row}
use Rattle.elf_file.specs.declared.dynamic.Dyn.{Dyn}
use Rattle.ifs_interface.specs.Interface.{InterfaceRecord}
use Rattle.ifs_interface.specs.declared.symbol.Kind.{Kind}
use Rattle.ifs_interface.specs.declared.symbol.Kind.TheVariants.{NoType, Func, Object, Tls, Unknown}
use Rattle.ifs_interface.specs.declared.symbol.Symbol.{Symbol}
use Rattle.ifs_stub.specs.declared.layout.Form.{Form}
use Rattle.ifs_stub.specs.declared.layout.Sizes.{Sizes}
use Rattle.ifs_stub.specs.declared.layout.Layout.{Layout}
use Rattle.ifs_stub.specs.declared.layout.Plan.{Plan}

-- ---- sizes and places

-- how many bytes names have
abbrev pub symbol_name_bytes : List Symbol → ℕ
symbol_name_bytes symbols = sum_by (λ symbol. length symbol.name) symbols

abbrev pub needed_name_bytes : List (List ℕ) → ℕ
needed_name_bytes names = sum_by (λ name. length name) names

abbrev pub soname_bytes : Option (List ℕ) → ℕ
soname_bytes None = 0
soname_bytes (Some name) = length name

abbrev pub soname_count : Option (List ℕ) → ℕ
soname_count None = 0
soname_count (Some name) = 1

-- .dynsym has a row for no symbol and one for each; .dynstr has a NUL, and then the names of the symbols,
-- the needed libraries and the soname, each with a NUL; .dynamic has an entry for each needed library and the
-- soname, and six others
unfoldable pub sizes_of : InterfaceRecord → Sizes
sizes_of i =
    let rows = length i.symbols + 1 in
    let needed_names = rows + symbol_name_bytes i.symbols in
    let soname_name = needed_names + (length i.needed + needed_name_bytes i.needed) in
    record {
      rows = rows;
      needed_names = needed_names;
      soname_name = soname_name;
      strings = soname_name + (soname_count i.soname + soname_bytes i.soname);
      entries = length i.needed + soname_count i.soname + 6;
    }

-- how many bytes are missing to a multiple of a word
abbrev pub gap : Width → ℕ → ℕ
gap width at = (word_size width - at % word_size width) % word_size width

-- the next multiple of a word
abbrev pub aligned : Width → ℕ → ℕ
aligned width at = at + gap width at

-- .shstrtab
abbrev pub terminated : List ℕ → List ℕ
terminated name = name ++ 0 ∷ []

abbrev pub section_names : List ℕ
section_names =
    0 ∷ terminated (codes ".dynsym") ++ terminated (codes ".dynstr") ++ terminated (codes ".hash")
    ++ terminated (codes ".dynamic") ++ terminated (codes ".shstrtab")

abbrev pub section_names_size : ℕ
section_names_size = 42

-- where the parts start, and how many bytes those have that sections and segments name. The program headers
-- end at a multiple of a word.
unfoldable pub layout_of : Sizes → Width → Layout
layout_of sizes width =
    let symbols = header_size width + 2 * segment_size width in
    let symbols_size = sizes.rows * symbol_size width in
    let strings = symbols + symbols_size in
    let strings_end = strings + sizes.strings in
    let hash = aligned width strings_end in
    let hash_size = 4 * (sizes.rows + 3) in
    let hash_end = hash + hash_size in
    let dynamic = aligned width hash_end in
    let entries_size = sizes.entries * dynamic_size width in
    let names = dynamic + entries_size in
    let names_end = names + section_names_size in
    record {
      symbols = symbols;
      symbols_size = symbols_size;
      strings = strings;
      strings_end = strings_end;
      hash = hash;
      hash_size = hash_size;
      hash_end = hash_end;
      dynamic = dynamic;
      dynamic_size = entries_size;
      names = names;
      names_end = names_end;
      sections = aligned width names_end;
    }

abbrev pub plan_of : InterfaceRecord → Form → Plan
plan_of i form = record { form = form; sizes = sizes_of i; layout = layout_of (sizes_of i) form.width }

-- ---- file header and program headers

abbrev pub file_header : Plan → Header
file_header plan = record {
  order = plan.form.order;
  width = plan.form.width;
  kind = 3;
  machine = plan.form.machine;
  entry_point = 0;
  phoff = header_size plan.form.width;
  phnum = 2;
  shoff = plan.layout.sections;
  shnum = 6;
  shstrndx = 5;
}

-- PT_LOAD, PF_R: all to the end of .dynamic
abbrev pub load_segment : Plan → Segment
load_segment plan = record {
  kind = 1;
  flags = 4;
  offset = 0;
  vaddr = 0;
  paddr = 0;
  filesz = plan.layout.names;
  memsz = plan.layout.names;
  align = 4096;
}

-- PT_DYNAMIC, PF_R: .dynamic
abbrev pub dynamic_segment : Plan → Segment
dynamic_segment plan = record {
  kind = 2;
  flags = 4;
  offset = plan.layout.dynamic;
  vaddr = plan.layout.dynamic;
  paddr = plan.layout.dynamic;
  filesz = plan.layout.dynamic_size;
  memsz = plan.layout.dynamic_size;
  align = word_size plan.form.width;
}

unfoldable pub header_part : Plan → List ℕ
header_part plan =
    header_bytes (file_header plan)
    ++ segment_bytes (load_segment plan) plan.form.order plan.form.width
    ++ segment_bytes (dynamic_segment plan) plan.form.order plan.form.width

-- ---- .dynsym

-- STB_GLOBAL or STB_WEAK
abbrev pub binding_of : Bool → ℕ
binding_of weak = if weak then 2 else 1

-- STT_NOTYPE, STT_OBJECT, STT_FUNC, STT_TLS
abbrev pub type_of : Kind → ℕ
type_of NoType = 0
type_of Object = 1
type_of Func = 2
type_of Tls = 6
type_of Unknown = 0

-- the row of a symbol whose name stands at a place of .dynstr. All defined symbols are of section 1, and none
-- has a value.
abbrev pub row_of : ℕ → Symbol → Row
row_of at symbol = record {
  name = at;
  info = binding_of symbol.weak * 16 + type_of symbol.kind;
  other = 0;
  shndx = if symbol.undefined then 0 else 1;
  value = 0;
  size = unwrap_or symbol.size 0;
}

abbrev pub null_row : Row
null_row = record { name = 0; info = 0; other = 0; shndx = 0; value = 0; size = 0 }

-- the rows of symbols whose names stand from a place on
abbrev pub rows_from : ℕ → List Symbol → List Row
rows_from at [] = []
rows_from at (symbol ∷ symbols) = row_of at symbol ∷ rows_from (at + (length symbol.name + 1)) symbols

abbrev pub rows_bytes : Order → Width → List Row → List ℕ
rows_bytes order width rows = flat_map (λ row. symbol_bytes row order width) rows

unfoldable pub symbol_part : List Symbol → Form → List ℕ
symbol_part symbols form = rows_bytes form.order form.width (null_row ∷ rows_from 1 symbols)

-- ---- .dynstr

abbrev pub soname_string : Option (List ℕ) → List ℕ
soname_string None = []
soname_string (Some name) = terminated name

unfoldable pub string_part : InterfaceRecord → List ℕ
string_part i =
    0 ∷ [] ++ flat_map (λ symbol. terminated symbol.name) i.symbols ++ flat_map terminated i.needed ++ soname_string i.soname

-- ---- .hash: one bucket, whose chain has each row but the first

-- the row that follows a row in its chain, 0 behind the last
abbrev pub next_row : ℕ → ℕ → ℕ
next_row count row = if row == 0 || row + 1 == count then 0 else row + 1

-- the first row of the chain, 0 where there is none
abbrev pub first_row : ℕ → ℕ
first_row count = if count == 1 then 0 else 1

abbrev pub word_bytes : Order → ℕ → List ℕ
word_bytes order word = number_bytes 4 word order

unfoldable pub hash_part : ℕ → Order → List ℕ
hash_part count order =
    word_bytes order 1 ++ word_bytes order count ++ word_bytes order (first_row count)
    ++ flat_map (λ row. word_bytes order (next_row count row)) (places 0 count)

-- ---- .dynamic

abbrev pub entry : ℕ → ℕ → Dyn
entry tag value = record { tag = tag; value = value }

abbrev pub entries_bytes : Order → Width → List Dyn → List ℕ
entries_bytes order width entries = flat_map (λ d. dynamic_bytes d order width) entries

-- DT_NEEDED, for names that stand from a place on
abbrev pub needed_entries : ℕ → List (List ℕ) → List Dyn
needed_entries at [] = []
needed_entries at (name ∷ names) = entry 1 at ∷ needed_entries (at + (length name + 1)) names

-- DT_SONAME
abbrev pub soname_entries : ℕ → Option (List ℕ) → List Dyn
soname_entries at None = []
soname_entries at (Some name) = entry 14 at ∷ []

-- DT_HASH, DT_STRTAB, DT_SYMTAB, DT_STRSZ, DT_SYMENT, DT_NULL
abbrev pub table_entries : Plan → List Dyn
table_entries plan =
    entry 4 plan.layout.hash ∷ entry 5 plan.layout.strings ∷ entry 6 plan.layout.symbols
    ∷ entry 10 plan.sizes.strings ∷ entry 11 (symbol_size plan.form.width) ∷ entry 0 0 ∷ []

unfoldable pub table_part : Plan → List ℕ
table_part plan = entries_bytes plan.form.order plan.form.width (table_entries plan)

unfoldable pub dynamic_part : InterfaceRecord → Plan → List ℕ
dynamic_part i plan =
    entries_bytes plan.form.order plan.form.width (needed_entries plan.sizes.needed_names i.needed)
    ++ entries_bytes plan.form.order plan.form.width (soname_entries plan.sizes.soname_name i.soname)
    ++ table_part plan

-- ---- section headers

-- SHT_NULL
abbrev pub null_section : SectionHeader
null_section = record {
  name = 0;
  kind = 0;
  flags = 0;
  addr = 0;
  offset = 0;
  size = 0;
  link = 0;
  info = 0;
  align = 0;
  entsize = 0;
}

-- .dynsym: SHT_DYNSYM, SHF_ALLOC; its strings are section 2, and row 1 is the first that isn't local
abbrev pub symbols_section : Plan → SectionHeader
symbols_section plan = record {
  name = 1;
  kind = 11;
  flags = 2;
  addr = plan.layout.symbols;
  offset = plan.layout.symbols;
  size = plan.layout.symbols_size;
  link = 2;
  info = 1;
  align = word_size plan.form.width;
  entsize = symbol_size plan.form.width;
}

-- .dynstr: SHT_STRTAB, SHF_ALLOC
abbrev pub strings_section : Plan → SectionHeader
strings_section plan = record {
  name = 9;
  kind = 3;
  flags = 2;
  addr = plan.layout.strings;
  offset = plan.layout.strings;
  size = plan.sizes.strings;
  link = 0;
  info = 0;
  align = 1;
  entsize = 0;
}

-- .hash: SHT_HASH, SHF_ALLOC; its rows are section 1
abbrev pub hash_section : Plan → SectionHeader
hash_section plan = record {
  name = 17;
  kind = 5;
  flags = 2;
  addr = plan.layout.hash;
  offset = plan.layout.hash;
  size = plan.layout.hash_size;
  link = 1;
  info = 0;
  align = word_size plan.form.width;
  entsize = 4;
}

-- .dynamic: SHT_DYNAMIC, SHF_ALLOC; its strings are section 2
abbrev pub dynamic_section : Plan → SectionHeader
dynamic_section plan = record {
  name = 23;
  kind = 6;
  flags = 2;
  addr = plan.layout.dynamic;
  offset = plan.layout.dynamic;
  size = plan.layout.dynamic_size;
  link = 2;
  info = 0;
  align = word_size plan.form.width;
  entsize = dynamic_size plan.form.width;
}

-- .shstrtab: SHT_STRTAB, which isn't loaded
abbrev pub names_section : Plan → SectionHeader
names_section plan = record {
  name = 32;
  kind = 3;
  flags = 0;
  addr = 0;
  offset = plan.layout.names;
  size = section_names_size;
  link = 0;
  info = 0;
  align = 1;
  entsize = 0;
}

abbrev pub written_section : Plan → SectionHeader → List ℕ
written_section plan section = section_bytes section plan.form.order plan.form.width

unfoldable pub section_part : Plan → List ℕ
section_part plan =
    written_section plan null_section
    ++ written_section plan (symbols_section plan)
    ++ written_section plan (strings_section plan)
    ++ written_section plan (hash_section plan)
    ++ written_section plan (dynamic_section plan)
    ++ written_section plan (names_section plan)

-- ---- the whole file

-- zeros from a place on, to the next multiple of a word
unfoldable pub gap_part : Width → ℕ → List ℕ
gap_part width at = replicate (gap width at) 0

unfoldable pub file_by : InterfaceRecord → Plan → List ℕ
file_by i plan =
    header_part plan
    ++ symbol_part i.symbols plan.form
    ++ string_part i
    ++ gap_part plan.form.width plan.layout.strings_end
    ++ hash_part plan.sizes.rows plan.form.order
    ++ gap_part plan.form.width plan.layout.hash_end
    ++ dynamic_part i plan
    ++ section_names
    ++ gap_part plan.form.width plan.layout.names_end
    ++ section_part plan

abbrev pub stub_file : Order → Width → ℕ → InterfaceRecord → List ℕ
stub_file order width machine i = file_by i (plan_of i (record { machine = machine; order = order; width = width }))
