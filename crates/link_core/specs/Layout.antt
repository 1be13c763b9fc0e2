-- Where everything of the image stands: segment R, what is only read, with the headers, from the base on;
-- segment X, code, from the next page on; segment W, what is written, from the next page on. An offset is
-- the address minus the base.
use Rattle.std.specs.List.{position_or_len}
use Rattle.std.specs.Prelude.{Bool, List, None, Ok, Option, Result, Some, [], codes, filter_map, flat_map, if◌then◌else◌, length, map, max, nat_le, nat_lt, not, slice_index, zip, ℕ, ◌&&◌, ◌*◌, ◌++◌, ◌+◌, ◌-◌, ◌∷◌}
use Rattle.ifs_bytes.specs.Carried.{carried}
use Rattle.ifs_bytes.specs.Outcome.{check, ◌>>=◌}
use Rattle.ifs_interface.specs.Triple.{same_name}
use Rattle.elf_object.specs.Record.{ObjectRecord}
use Rattle.link_machine.specs.Rules.{MachineRules}
use Rattle.link_core.specs.declared.layout.CommonAt.{CommonAt}
use Rattle.link_core.specs.declared.layout.Layout.{Layout}
use Rattle.link_core.specs.declared.layout.OutSection.{OutSection}
use Rattle.link_core.specs.declared.layout.PieceAt.{PieceAt}
use Rattle.link_core.specs.declared.options.LinkOptions.{LinkOptions}
use Rattle.link_core.specs.declared.options.OutKind.{OutKind}
use Rattle.link_core.specs.declared.options.OutKind.TheVariants as kinds
use Rattle.link_core.specs.declared.plan.Plan.{Plan}
use Rattle.link_core.specs.declared.refusal.LinkRefusal.{LinkRefusal}
use Rattle.link_core.specs.declared.refusal.LinkRefusal.TheVariants.{ImageTooLarge}
use Rattle.link_core.specs.declared.resolution.Resolution.{Resolution}
use Rattle.link_core.specs.declared.tables.TheConstants.{MOST_IMAGE_BYTES, MOST_OUTPUT_SECTIONS}
use Rattle.link_core.specs.Aligned.{aligned, end_from, greatest_align, places_from}
use Rattle.link_core.specs.Commons.{CommonItem, Item, PieceItem, item_align, item_size, items_of, outputs_by}
use Rattle.link_core.specs.Contents.{Content, contents_of, executed_contents, read_contents, thread_contents, thread_zeros, written_contents}
use Rattle.link_core.specs.Exports.{is_shared}
use Rattle.link_core.specs.OutputNames.{Output, same_class}
use Rattle.link_core.specs.Planned.{Planned}
use Rattle.link_core.specs.Strings.{string_table_size}

-- a program at fixed addresses starts at 4 MiB, all else at 0
abbrev pub base_of : OutKind → ℕ
base_of kinds.Exec = 4194304
base_of kinds.Pie = 0
base_of kinds.Shared = 0

-- the addresses of sections from an address on, and where they end
abbrev pub addresses_from : ℕ → List Content → List ℕ
addresses_from at contents = places_from (λ c. c.align) (λ c. c.size) at contents

abbrev pub contents_end : ℕ → List Content → ℕ
contents_end at contents = end_from (λ c. c.align) (λ c. c.size) at contents

-- PT_PHDR and PT_INTERP in programs; PT_LOAD of R, X and W; PT_DYNAMIC; PT_TLS; PT_GNU_STACK
abbrev pub count_if : Bool → ℕ
count_if there = if there then 1 else 0

abbrev pub has_code : Planned → Bool
has_code j = nat_lt 0 (length (executed_contents j))

abbrev pub has_threads : Planned → Bool
has_threads j = nat_lt 0 (length (thread_contents j ++ thread_zeros j))

unfoldable pub segment_count : Planned → ℕ
segment_count j =
    let program = not (is_shared j.options.kind) in
    count_if program + count_if program + 1 + count_if (has_code j) + 1 + 1 + count_if (has_threads j) + 1

-- the file header and the program headers
unfoldable pub headers_size : Planned → ℕ
headers_size j = 64 + 56 * segment_count j

-- ---- where the parts of the segments start and end

abbrev pub read_start : Planned → ℕ
read_start j = base_of j.options.kind + headers_size j

unfoldable pub read_end : Planned → ℕ
read_end j = contents_end (read_start j) (read_contents j)

unfoldable pub code_start : Planned → ℕ
code_start j = aligned j.rules.page (read_end j)

unfoldable pub code_end : Planned → ℕ
code_end j = contents_end (code_start j) (executed_contents j)

-- where there is no code, this is where it would start
unfoldable pub written_start : Planned → ℕ
written_start j = aligned j.rules.page (code_end j)

-- thread-local data comes first, the first of its sections at the alignment of all of them
unfoldable pub tls_align : Planned → ℕ
tls_align j = greatest_align (λ c. c.align) (thread_contents j ++ thread_zeros j)

unfoldable pub tls_start : Planned → ℕ
tls_start j = aligned (tls_align j) (written_start j)

unfoldable pub tls_file_end : Planned → ℕ
tls_file_end j = contents_end (tls_start j) (thread_contents j)

unfoldable pub tls_end : Planned → ℕ
tls_end j = contents_end (tls_file_end j) (thread_zeros j)

-- the zeros of threads take no addresses from what follows
unfoldable pub data_start : Planned → ℕ
data_start j = if nat_lt 0 (length (thread_contents j)) then tls_file_end j else written_start j

unfoldable pub written_end : Planned → ℕ
written_end j = contents_end (data_start j) (written_contents j)

-- the addresses of all sections, in their order
unfoldable pub addresses_of : Planned → List ℕ
addresses_of j =
    addresses_from (read_start j) (read_contents j)
    ++ addresses_from (code_start j) (executed_contents j)
    ++ addresses_from (tls_start j) (thread_contents j)
    ++ addresses_from (tls_file_end j) (thread_zeros j)
    ++ addresses_from (data_start j) (written_contents j)

abbrev pub section_from : Content × ℕ → OutSection
section_from placed = record {
  name = placed.0.name;
  kind = placed.0.kind;
  flags = placed.0.flags;
  address = placed.1;
  size = placed.0.size;
  align = placed.0.align;
}

-- ---- pieces and commons

-- where the items of an output section stand in it. Each alignment is a power of two that the section's is a
-- multiple of, so this is so of addresses as of places in the section.
unfoldable pub item_places : Planned → Output → List ℕ
item_places j output = places_from (item_align j) (item_size j) 0 (items_of j output)

-- the position of an output section among all sections
abbrev pub is_output : Output → Content → Bool
is_output output c = not c.table && same_name c.name output.name && same_class c.class output.class

unfoldable pub output_position : Planned → Output → ℕ
output_position j output = position_or_len (is_output output) (contents_of j)

abbrev pub output_address : Planned → Output → ℕ
output_address j output = slice_index (addresses_of j) (output_position j output)

abbrev pub piece_from : ℕ → ℕ → Item × ℕ → Option PieceAt
piece_from out address (PieceItem piece, place) =
    Some (record { object = piece.object; section = piece.section; out = out; address = address + place })
piece_from out address (CommonItem n, place) = None

abbrev pub common_from : ℕ → Item × ℕ → Option CommonAt
common_from address (PieceItem piece, place) = None
common_from address (CommonItem n, place) = Some (record { name = n; address = address + place })

unfoldable pub pieces_at : Planned → Output → List PieceAt
pieces_at j output =
    filter_map (piece_from (output_position j output) (output_address j output))
    (zip (items_of j output) (item_places j output))

unfoldable pub commons_at : Planned → Output → List CommonAt
commons_at j output =
    filter_map (common_from (output_address j output))
    (zip (items_of j output) (item_places j output))

-- ---- the layout

unfoldable pub layout_by : Planned → Layout
layout_by j =
    let outputs = outputs_by j in
    let threads = has_threads j in
    record {
      sections = map section_from (zip (contents_of j) (addresses_of j));
      pieces = flat_map (pieces_at j) outputs;
      commons = flat_map (commons_at j) outputs;
      end = written_end j;
      tls_start = if threads then tls_start j else 0;
      tls_file = if threads then tls_file_end j - tls_start j else 0;
      tls_size = if threads then tls_end j - tls_start j else 0;
      tls_align = if threads then tls_align j else 0;
    }

-- ---- limits: of memory, of output sections, and of bytes of their names

-- how much memory the image takes
unfoldable pub image_span : Planned → ℕ
image_span j = max (written_end j) (if has_threads j then tls_end j else 0) - base_of j.options.kind

-- the names of .shstrtab, in the order of the section headers
unfoldable pub section_names : Planned → List (List ℕ)
section_names j = map (λ c. c.name) (contents_of j) ++ codes ".shstrtab" ∷ []

abbrev pub names_size : Planned → ℕ
names_size j = string_table_size (section_names j)

abbrev pub too_large : ℕ → LinkRefusal
too_large n = ImageTooLarge (carried n)

-- the layout, or the first limit that it doesn't keep
unfoldable pub layout_in : Planned → Result Layout LinkRefusal
layout_in j = do
  _ ← check (nat_le (image_span j) MOST_IMAGE_BYTES) (too_large (image_span j))
  _ ← check (nat_le (length (outputs_by j)) MOST_OUTPUT_SECTIONS) (too_large (length (outputs_by j)))
  _ ← check (nat_le (names_size j) MOST_IMAGE_BYTES) (too_large (names_size j))
  Ok (layout_by j)

unfoldable pub layout_of :
    MachineRules → LinkOptions → List ObjectRecord → Resolution → Plan → Result Layout LinkRefusal
layout_of rules options objects r p =
    layout_in (record { rules = rules; options = options; objects = objects; names = r; plan = p })
