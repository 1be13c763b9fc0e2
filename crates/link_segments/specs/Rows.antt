-- The rows of the program header table by their names, and the bytes of its two halves.
use Rattle.std.specs.List.{list_any}
use Rattle.std.specs.Prelude.{List, codes, flat_map, not, true, ℕ, ◌*◌, ◌++◌, ◌+◌, ◌-◌}
use Rattle.ifs_bytes.specs.declared.form.Order.TheVariants.{Little}
use Rattle.ifs_bytes.specs.declared.form.Width.TheVariants.{W64}
use Rattle.elf_file.specs.Written.{segment_bytes}
use Rattle.elf_file.specs.declared.segment.Segment.{Segment}
use Rattle.link_core.specs.declared.layout.Layout.{Layout}
use Rattle.link_core.specs.declared.tables.TheConstants.{PF_R, PF_W, PF_X, PT_DYNAMIC, PT_INTERP, PT_LOAD, PT_PHDR, PT_TLS}
use Rattle.link_core.specs.Exports.{is_shared}
use Rattle.link_core.specs.Headers.{code_address, segment, segment_for, stack_segment, table_segment, written_address, written_segment_flags}
use Rattle.link_core.specs.Layout.{base_of, segment_count}
use Rattle.link_core.specs.Places.{code_segment_end, file_end, is_code, is_thread, read_segment_end}
use Rattle.link_core.specs.Planned.{Planned}

abbrev pub header_row : Planned → Segment
header_row j =
    segment_for j PT_PHDR PF_R (base_of j.options.kind + 64) (56 * segment_count j) (56 * segment_count j) 8

abbrev pub interpreter_row : Planned → Layout → Segment
interpreter_row j l = table_segment j l PT_INTERP PF_R (codes ".interp") 1

-- from an address to an end, in the file and in memory
abbrev pub loaded : Planned → ℕ → ℕ → ℕ → ℕ → Segment
loaded j flags start file memory =
    segment_for j PT_LOAD flags start (file - start) (memory - start) j.rules.page

abbrev pub read_row : Planned → Layout → Segment
read_row j l = loaded j PF_R (base_of j.options.kind) (read_segment_end l) (read_segment_end l)

abbrev pub code_row : Planned → Layout → Segment
code_row j l = loaded j (PF_R + PF_X) (code_address j l) (code_segment_end l) (code_segment_end l)

abbrev pub written_row : Planned → Layout → Segment
written_row j l = loaded j (written_segment_flags j) (written_address j l) (file_end l) l.end

abbrev pub dynamic_row : Planned → Layout → Segment
dynamic_row j l = table_segment j l PT_DYNAMIC (PF_R + PF_W) (codes ".dynamic") 8

abbrev pub thread_row : Planned → Layout → Segment
thread_row j l = segment_for j PT_TLS PF_R l.tls_start l.tls_file l.tls_size l.tls_align

abbrev pub rows_bytes : List Segment → List ℕ
rows_bytes rows = flat_map (λ s. segment_bytes s Little W64) rows

-- the first four of the table, and the last four
unfoldable pub front_bytes : Planned → Layout → List ℕ
front_bytes j l =
    rows_bytes (segment (not (is_shared j.options.kind)) (header_row j))
    ++ rows_bytes (segment (not (is_shared j.options.kind)) (interpreter_row j l))
    ++ rows_bytes (segment true (read_row j l))
    ++ rows_bytes (segment (list_any is_code l.sections) (code_row j l))

unfoldable pub back_bytes : Planned → Layout → List ℕ
back_bytes j l =
    rows_bytes (segment true (written_row j l))
    ++ rows_bytes (segment true (dynamic_row j l))
    ++ rows_bytes (segment (list_any is_thread l.sections) (thread_row j l))
    ++ rows_bytes (segment true stack_segment)
