-- The sections of the image: the tables that the link makes, and the output sections of the objects' pieces;
-- each with all that its section header says but for its place (gABI, "Sections"). Sizes of tables follow
-- from names and needs alone.
use Rattle.std.specs.List.{list_any}
use Rattle.std.specs.Prelude.{Bool, List, None, Option, Some, [], codes, false, filter, if◌then◌else◌, length, map, nat_lt, not, true, unwrap_or, ℕ, ◌*◌, ◌++◌, ◌+◌, ◌==◌, ◌∷◌}
use Rattle.elf_object.specs.declared.constants.TheConstants.{SHF_ALLOC, SHT_NOBITS, SHT_PROGBITS, SHT_RELA, SHT_STRTAB, SHT_X86_64_UNWIND}
use Rattle.link_machine.specs.Rules.{MachineRules}
use Rattle.link_core.specs.declared.constants.TheConstants.{EM_X86_64, SHF_EXECINSTR, SHF_TLS, SHF_WRITE}
use Rattle.link_core.specs.declared.output.OutClass.{OutClass}
use Rattle.link_core.specs.declared.output.OutClass.TheVariants as classes
use Rattle.link_core.specs.declared.plan.Plan.{Plan}
use Rattle.link_core.specs.declared.tables.TheConstants.{SHT_DYNAMIC, SHT_DYNSYM, SHT_HASH}
use Rattle.link_core.specs.Aligned.{end_from, greatest_align}
use Rattle.link_core.specs.Commons.{item_align, item_size, items_of, outputs_by}
use Rattle.link_core.specs.Entries.{dynamic_entries, rela_dyn_count}
use Rattle.link_core.specs.Exports.{is_shared}
use Rattle.link_core.specs.OutputNames.{Output, Piece, is_executable, pieces_of, same_class}
use Rattle.link_core.specs.Planned.{Planned, pieces_in}
use Rattle.link_core.specs.Slots.{word_count}
use Rattle.link_core.specs.Strings.{dynamic_rows, dynamic_strings, string_table_size}

-- table: whether the link makes it; class: where it stands; link: the name of the table that sh_link names,
-- or none
pub record Content : Type 0 where
  pub table : Bool
  pub class : OutClass
  pub name : List ℕ
  pub kind : ℕ
  pub flags : ℕ
  pub align : ℕ
  pub entsize : ℕ
  pub link : Option (List ℕ)
  pub info : ℕ
  pub size : ℕ

-- sh_flags of what is only read, of code, of data, and of thread-local data
abbrev pub read_flags : ℕ
read_flags = SHF_ALLOC

abbrev pub code_flags : ℕ
code_flags = SHF_ALLOC + SHF_EXECINSTR

abbrev pub data_flags : ℕ
data_flags = SHF_ALLOC + SHF_WRITE

abbrev pub thread_flags : ℕ
thread_flags = SHF_ALLOC + SHF_WRITE + SHF_TLS

-- PT_INTERP's path: the one that was given, or the machine's usual one
abbrev pub usual_interpreter : ℕ → List ℕ
usual_interpreter number =
    if number == EM_X86_64 then codes "/lib64/ld-linux-x86-64.so.2" else codes "/lib/ld-linux-aarch64.so.1"

unfoldable pub interpreter_of : Planned → List ℕ
interpreter_of j = unwrap_or j.options.interp (usual_interpreter j.rules.number)

-- a row of .dynsym for no symbol and one for each import and each export
abbrev pub row_count : Plan → ℕ
row_count p = 1 + length (dynamic_rows p)

abbrev pub interp_section : Planned → Content
interp_section j = record {
  table = true;
  class = classes.R;
  name = codes ".interp";
  kind = SHT_PROGBITS;
  flags = read_flags;
  align = 1;
  entsize = 0;
  link = None;
  info = 0;
  size = length (interpreter_of j) + 1;
}

abbrev pub dynsym_section : Plan → Content
dynsym_section p = record {
  table = true;
  class = classes.R;
  name = codes ".dynsym";
  kind = SHT_DYNSYM;
  flags = read_flags;
  align = 8;
  entsize = 24;
  link = Some (codes ".dynstr");
  info = 1;
  size = 24 * row_count p;
}

abbrev pub dynstr_section : Planned → Content
dynstr_section j = record {
  table = true;
  class = classes.R;
  name = codes ".dynstr";
  kind = SHT_STRTAB;
  flags = read_flags;
  align = 1;
  entsize = 0;
  link = None;
  info = 0;
  size = string_table_size (dynamic_strings j);
}

-- two counts, as many buckets as rows, and a word of the chain for each row
abbrev pub hash_section : Plan → Content
hash_section p = record {
  table = true;
  class = classes.R;
  name = codes ".hash";
  kind = SHT_HASH;
  flags = read_flags;
  align = 8;
  entsize = 4;
  link = Some (codes ".dynsym");
  info = 0;
  size = 4 * (2 + 2 * row_count p);
}

abbrev pub rela_section : List ℕ → ℕ → Content
rela_section name count = record {
  table = true;
  class = classes.R;
  name = name;
  kind = SHT_RELA;
  flags = read_flags;
  align = 8;
  entsize = 24;
  link = Some (codes ".dynsym");
  info = 0;
  size = 24 * count;
}

abbrev pub plt_section : MachineRules → Plan → Content
plt_section rules p = record {
  table = true;
  class = classes.X;
  name = codes ".plt";
  kind = SHT_PROGBITS;
  flags = code_flags;
  align = 16;
  entsize = 16;
  link = None;
  info = 0;
  size = rules.header_len + 16 * length p.plt;
}

abbrev pub dynamic_section : ℕ → Content
dynamic_section count = record {
  table = true;
  class = classes.W;
  name = codes ".dynamic";
  kind = SHT_DYNAMIC;
  flags = data_flags;
  align = 8;
  entsize = 16;
  link = Some (codes ".dynstr");
  info = 0;
  size = 16 * count;
}

abbrev pub slots_section : List ℕ → ℕ → Content
slots_section name count = record {
  table = true;
  class = classes.W;
  name = name;
  kind = SHT_PROGBITS;
  flags = data_flags;
  align = 8;
  entsize = 8;
  link = None;
  info = 0;
  size = 8 * count;
}

-- ---- output sections

-- SHT_X86_64_UNWIND is a section of bytes like others
abbrev pub plain_kind : ℕ → ℕ
plain_kind kind = if kind == SHT_X86_64_UNWIND then SHT_PROGBITS else kind

abbrev pub is_zeros : OutClass → Bool
is_zeros classes.R = false
is_zeros classes.X = false
is_zeros classes.W = false
is_zeros classes.T = false
is_zeros classes.Z = true
is_zeros classes.B = true

-- the type of the first piece; SHT_NOBITS where all are zeros
abbrev pub first_kind : List Piece → ℕ
first_kind [] = SHT_NOBITS
first_kind (piece ∷ pieces) = plain_kind piece.input.kind

abbrev pub written_flags : Bool → ℕ
written_flags executed = if executed then data_flags + SHF_EXECINSTR else data_flags

-- what is written may be executed too
abbrev pub output_flags : OutClass → Bool → ℕ
output_flags classes.R executed = read_flags
output_flags classes.X executed = code_flags
output_flags classes.W executed = written_flags executed
output_flags classes.B executed = written_flags executed
output_flags classes.T executed = thread_flags
output_flags classes.Z executed = thread_flags

unfoldable pub output_section : Planned → Output → Content
output_section j output =
    let pieces = pieces_of (pieces_in j) output in
    record {
      table = false;
      class = output.class;
      name = output.name;
      kind = if is_zeros output.class then SHT_NOBITS else first_kind pieces;
      flags = output_flags output.class (list_any (λ p. is_executable p.input) pieces);
      align = greatest_align (item_align j) (items_of j output);
      entsize = 0;
      link = None;
      info = 0;
      size = end_from (item_align j) (item_size j) 0 (items_of j output);
    }

-- ---- all sections, segment by segment

abbrev pub has_plt : Planned → Bool
has_plt j = nat_lt 0 (length j.plan.plt)

-- a section, where it is there
abbrev pub present : Bool → Content → List Content
present there content = if there then content ∷ [] else []

-- the output sections of a class, in order of first appearance
unfoldable pub outputs_in : OutClass → Planned → List Content
outputs_in class j = map (output_section j) (filter (λ output. same_class output.class class) (outputs_by j))

unfoldable pub read_contents : Planned → List Content
read_contents j =
    present (not (is_shared j.options.kind)) (interp_section j)
    ++ present true (dynsym_section j.plan)
    ++ present true (dynstr_section j)
    ++ present true (hash_section j.plan)
    ++ present (nat_lt 0 (rela_dyn_count j)) (rela_section (codes ".rela.dyn") (rela_dyn_count j))
    ++ present (has_plt j) (rela_section (codes ".rela.plt") (length j.plan.plt))
    ++ outputs_in classes.R j

unfoldable pub executed_contents : Planned → List Content
executed_contents j = present (has_plt j) (plt_section j.rules j.plan) ++ outputs_in classes.X j

-- thread-local data with bytes in the file, and the zeros
abbrev pub thread_contents : Planned → List Content
thread_contents j = outputs_in classes.T j

abbrev pub thread_zeros : Planned → List Content
thread_zeros j = outputs_in classes.Z j

unfoldable pub written_contents : Planned → List Content
written_contents j =
    present true (dynamic_section (length (dynamic_entries j)))
    ++ present (nat_lt 0 (word_count j)) (slots_section (codes ".got") (word_count j))
    ++ present true (slots_section (codes ".got.plt") (3 + length j.plan.plt))
    ++ outputs_in classes.W j
    ++ outputs_in classes.B j

-- the sections of the image, in the order of their headers
unfoldable pub contents_of : Planned → List Content
contents_of j =
    read_contents j ++ executed_contents j ++ thread_contents j ++ thread_zeros j ++ written_contents j
