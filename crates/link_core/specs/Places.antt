-- Where tables and output sections stand, by a layout: its sections are the contents of the image, in order.
use Rattle.std.specs.List.{enumerate_from, last_or, position_or_len}
use Rattle.std.specs.Option.{option_map_or}
use Rattle.std.specs.Prelude.{Bool, List, None, Option, filter, find, map, not, option_and_then, slice_get, zip, ℕ, ◌&&◌, ◌+◌, ◌==◌, ◌||◌}
use Rattle.ifs_interface.specs.Triple.{same_name}
use Rattle.elf_object.specs.declared.constants.TheConstants.{SHT_NOBITS}
use Rattle.link_core.specs.declared.layout.Layout.{Layout}
use Rattle.link_core.specs.declared.layout.OutSection.{OutSection}
use Rattle.link_core.specs.Commons.{outputs_by}
use Rattle.link_core.specs.Contents.{Content, code_flags, contents_of, read_flags, thread_flags}
use Rattle.link_core.specs.Layout.{output_position}
use Rattle.link_core.specs.Planned.{Planned}

-- contents with their places and numbers, from 0
unfoldable pub numbered : List Content → List OutSection → List (ℕ × Content × OutSection)
numbered contents sections = map (λ e. (e.0, e.1.0, e.1.1)) (enumerate_from 0 (zip contents sections))

abbrev pub is_table : List ℕ → Content → Bool
is_table name c = c.table && same_name c.name name

-- the position of a table among the sections
unfoldable pub table_position : Planned → List ℕ → ℕ
table_position j name = position_or_len (is_table name) (contents_of j)

unfoldable pub table_address : Planned → Layout → List ℕ → ℕ
table_address j l name = option_map_or (λ s. s.address) (slice_get l.sections (table_position j name)) 0

unfoldable pub table_size : Planned → Layout → List ℕ → ℕ
table_size j l name = option_map_or (λ s. s.size) (slice_get l.sections (table_position j name)) 0

-- the first output section of a name, by first appearance, whatever its class
unfoldable pub named_section : Planned → Layout → List ℕ → Option OutSection
named_section j l name =
    option_and_then (λ output. slice_get l.sections (output_position j output))
    (find (λ output. same_name output.name name) (outputs_by j))

abbrev pub section_end : OutSection → ℕ
section_end s = s.address + s.size

-- the end of the last section of some kind
abbrev pub last_end : (OutSection → Bool) → Layout → ℕ
last_end test l = option_map_or section_end (last_or None (filter test l.sections)) 0

-- ---- segments: the flags of a section say in which one it stands

abbrev pub is_read : OutSection → Bool
is_read s = s.flags == read_flags

abbrev pub is_code : OutSection → Bool
is_code s = s.flags == code_flags

abbrev pub is_thread : OutSection → Bool
is_thread s = s.flags == thread_flags

-- SHT_NOBITS
abbrev pub has_bytes : OutSection → Bool
has_bytes s = not (s.kind == SHT_NOBITS)

-- the ends of segment R, of X, or of R where there is no X, and of what W has in the file
unfoldable pub read_segment_end : Layout → ℕ
read_segment_end l = last_end is_read l

unfoldable pub code_segment_end : Layout → ℕ
code_segment_end l = last_end (λ s. is_read s || is_code s) l

unfoldable pub file_end : Layout → ℕ
file_end l = last_end has_bytes l

abbrev pub is_zeroed : OutSection → Bool
is_zeroed s = not (has_bytes s) && not (is_thread s)

-- where zeros start: the first section of class B
unfoldable pub zeros_start : Layout → ℕ
zeros_start l =
    option_map_or (λ s. s.address) (find is_zeroed l.sections) (file_end l)

-- where an object's section stands
unfoldable pub section_address : Layout → ℕ → ℕ → ℕ
section_address l object section =
    option_map_or (λ p. p.address) (find (λ p. p.object == object && p.section == section) l.pieces) 0

-- the position of the section that it is a piece of
unfoldable pub section_position : Layout → ℕ → ℕ → ℕ
section_position l object section =
    option_map_or (λ p. p.out) (find (λ p. p.object == object && p.section == section) l.pieces) 0

unfoldable pub common_address : Layout → ℕ → ℕ
common_address l n = option_map_or (λ c. c.address) (find (λ c. c.name == n) l.commons) 0
