-- The file header, the program headers, and the section headers with their names (gABI, "ELF Header",
-- "Program Header", "Sections").
use Rattle.std.specs.List.{list_any}
use Rattle.std.specs.Option.{option_map_or}
use Rattle.std.specs.Prelude.{Bool, List, Option, [], codes, false, flat_map, if◌then◌else◌, length, map, not, true, ℕ, ◌&&◌, ◌*◌, ◌++◌, ◌+◌, ◌-◌, ◌∷◌}
use Rattle.ifs_bytes.specs.declared.form.Order.TheVariants.{Little}
use Rattle.ifs_bytes.specs.declared.form.Width.TheVariants.{W64}
use Rattle.elf_file.specs.Written.{section_bytes, segment_bytes}
use Rattle.elf_file.specs.declared.header.Header.{Header}
use Rattle.elf_file.specs.declared.section.SectionHeader.{SectionHeader}
use Rattle.elf_file.specs.declared.segment.Segment.{Segment}
use Rattle.elf_object.specs.declared.constants.TheConstants.{SHT_STRTAB}
use Rattle.link_core.specs.declared.layout.Layout.{Layout}
use Rattle.link_core.specs.declared.layout.OutSection.{OutSection}
use Rattle.link_core.specs.declared.options.OutKind.{OutKind}
use Rattle.link_core.specs.declared.options.OutKind.TheVariants as kinds
use Rattle.link_core.specs.declared.output.OutClass.{OutClass}
use Rattle.link_core.specs.declared.output.OutClass.TheVariants as classes
use Rattle.link_core.specs.declared.tables.TheConstants.{ET_DYN, ET_EXEC, PF_R, PF_W, PF_X, PT_DYNAMIC, PT_GNU_STACK, PT_INTERP, PT_LOAD, PT_PHDR, PT_TLS}
use Rattle.link_core.specs.Aligned.{aligned}
use Rattle.link_core.specs.Contents.{Content, contents_of}
use Rattle.link_core.specs.Exports.{is_shared}
use Rattle.link_core.specs.Layout.{base_of, section_names, segment_count}
use Rattle.link_core.specs.OutputNames.{is_executable, output_of}
use Rattle.link_core.specs.Places.{code_segment_end, file_end, is_code, is_thread, numbered, read_segment_end, table_address, table_position, table_size}
use Rattle.link_core.specs.Planned.{Planned, object_name, pieces_in}
use Rattle.link_core.specs.Strings.{string_place, string_table, string_table_size}
use Rattle.link_core.specs.Value.{name_value}

abbrev pub offset_of : Planned → ℕ → ℕ
offset_of j address = address - base_of j.options.kind

-- ---- program headers

-- a program header, where it is there
abbrev pub segment : Bool → Segment → List Segment
segment there s = if there then s ∷ [] else []

-- p_paddr is p_vaddr
abbrev pub segment_for : Planned → ℕ → ℕ → ℕ → ℕ → ℕ → ℕ → Segment
segment_for j kind flags address filesz memsz align = record {
  kind = kind;
  flags = flags;
  offset = offset_of j address;
  vaddr = address;
  paddr = address;
  filesz = filesz;
  memsz = memsz;
  align = align;
}

-- the address of a table to its end
abbrev pub table_segment : Planned → Layout → ℕ → ℕ → List ℕ → ℕ → Segment
table_segment j l kind flags name align =
    segment_for j kind flags (table_address j l name) (table_size j l name) (table_size j l name) align

-- PF_X, where a piece of W, thread-local ones among them, is executable
abbrev pub is_written_class : OutClass → Bool
is_written_class classes.R = false
is_written_class classes.X = false
is_written_class classes.W = true
is_written_class classes.T = true
is_written_class classes.Z = true
is_written_class classes.B = true

unfoldable pub written_segment_flags : Planned → ℕ
written_segment_flags j =
    if list_any (λ p. is_executable p.input && is_written_class (output_of p).class) (pieces_in j)
    then PF_R + PF_W + PF_X else PF_R + PF_W

-- where X and W start: on the next page
unfoldable pub code_address : Planned → Layout → ℕ
code_address j l = aligned j.rules.page (read_segment_end l)

unfoldable pub written_address : Planned → Layout → ℕ
written_address j l = aligned j.rules.page (code_segment_end l)

-- a stack that is only read and written
abbrev pub stack_segment : Segment
stack_segment = record {
  kind = PT_GNU_STACK;
  flags = PF_R + PF_W;
  offset = 0;
  vaddr = 0;
  paddr = 0;
  filesz = 0;
  memsz = 0;
  align = 0;
}

unfoldable pub program_headers : Planned → Layout → List Segment
program_headers j l =
    let program = not (is_shared j.options.kind) in
    let base = base_of j.options.kind in
    let page = j.rules.page in
    let headers = 56 * segment_count j in
    let read_bytes = read_segment_end l - base in
    let code_bytes = code_segment_end l - code_address j l in
    let file_bytes = file_end l - written_address j l in
    let memory_bytes = l.end - written_address j l in
    segment program (segment_for j PT_PHDR PF_R (base + 64) headers headers 8)
    ++ segment program (table_segment j l PT_INTERP PF_R (codes ".interp") 1)
    ++ segment true (segment_for j PT_LOAD PF_R base read_bytes read_bytes page)
    ++ segment (list_any is_code l.sections)
    (segment_for j PT_LOAD (PF_R + PF_X) (code_address j l) code_bytes code_bytes page)
    ++ segment true
    (segment_for j PT_LOAD (written_segment_flags j) (written_address j l) file_bytes memory_bytes page)
    ++ segment true (table_segment j l PT_DYNAMIC (PF_R + PF_W) (codes ".dynamic") 8)
    ++ segment (list_any is_thread l.sections)
    (segment_for j PT_TLS PF_R l.tls_start l.tls_file l.tls_size l.tls_align)
    ++ segment true stack_segment

unfoldable pub program_header_bytes : Planned → Layout → List ℕ
program_header_bytes j l = flat_map (λ s. segment_bytes s Little W64) (program_headers j l)

-- ---- section headers

-- .shstrtab stands behind the last byte of W in the file, and the section headers behind it, at a multiple
-- of 8
unfoldable pub names_offset : Planned → Layout → ℕ
names_offset j l = offset_of j (file_end l)

unfoldable pub names_bytes : Planned → List ℕ
names_bytes j = string_table (section_names j)

unfoldable pub headers_offset : Planned → Layout → ℕ
headers_offset j l = aligned 8 (names_offset j l + string_table_size (section_names j))

abbrev pub null_section : SectionHeader
null_section = record {
  name = 0;
  kind = 0;
  flags = 0;
  addr = 0;
  offset = 0;
  size = 0;
  link = 0;
  info = 0;
  align = 0;
  entsize = 0;
}

-- the number of a table in the section header table
abbrev pub linked : Planned → Option (List ℕ) → ℕ
linked j name = option_map_or (λ table. table_position j table + 1) name 0

-- section i of the layout
abbrev pub section_header : Planned → ℕ × Content × OutSection → SectionHeader
section_header j placed = record {
  name = string_place (section_names j) placed.0;
  kind = placed.2.kind;
  flags = placed.2.flags;
  addr = placed.2.address;
  offset = offset_of j placed.2.address;
  size = placed.2.size;
  link = linked j placed.1.link;
  info = placed.1.info;
  align = placed.2.align;
  entsize = placed.1.entsize;
}

-- SHT_STRTAB, not loaded
abbrev pub names_section : Planned → Layout → SectionHeader
names_section j l = record {
  name = string_place (section_names j) (length l.sections);
  kind = SHT_STRTAB;
  flags = 0;
  addr = 0;
  offset = names_offset j l;
  size = string_table_size (section_names j);
  link = 0;
  info = 0;
  align = 1;
  entsize = 0;
}

unfoldable pub section_headers : Planned → Layout → List SectionHeader
section_headers j l =
    null_section ∷ map (section_header j) (numbered (contents_of j) l.sections) ++ names_section j l ∷ []

unfoldable pub section_header_bytes : Planned → Layout → List ℕ
section_header_bytes j l = flat_map (λ s. section_bytes s Little W64) (section_headers j l)

-- ---- the file header

-- ET_EXEC, or ET_DYN
abbrev pub file_kind : OutKind → ℕ
file_kind kinds.Exec = ET_EXEC
file_kind kinds.Pie = ET_DYN
file_kind kinds.Shared = ET_DYN

-- a program starts at its entry; a library has none
unfoldable pub entry_address : Planned → Layout → ℕ
entry_address j l =
    if is_shared j.options.kind then 0
    else option_map_or (name_value j l) (object_name j j.options.entry_name) 0

unfoldable pub file_header : Planned → Layout → Header
file_header j l = record {
  order = Little;
  width = W64;
  kind = file_kind j.options.kind;
  machine = j.rules.number;
  entry_point = entry_address j l;
  phoff = 64;
  phnum = segment_count j;
  shoff = headers_offset j l;
  shnum = length l.sections + 2;
  shstrndx = length l.sections + 1;
}
