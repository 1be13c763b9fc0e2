-- Rows of .dynsym by the places of names in .dynstr, and what the rows of common symbols say.
use Rattle.std.specs.List.{enumerate_from, position_or_len}
use Rattle.std.specs.Option.{option_map_or}
use Rattle.std.specs.Prelude.{Bool, List, Some, codes, filter, find, flat_map, length, map, nat_eq, slice_get, take, ℕ, ◌&&◌, ◌++◌, ◌+◌, ◌-◌, ◌==◌, ◌≡◌}
use Rattle.ifs_bytes.specs.declared.form.Order.TheVariants.{Little}
use Rattle.ifs_bytes.specs.declared.form.Width.TheVariants.{W64}
use Rattle.ifs_interface.specs.Triple.{same_name}
use Rattle.indexmap.specs.IndexMap.{IndexMap, get}
use Rattle.elf_file.specs.Written.{symbol_bytes}
use Rattle.elf_file.specs.declared.symbol.Row.{Row}
use Rattle.link_commons.specs.declared.room.Room.{Room}
use Rattle.link_core.specs.declared.layout.Layout.{Layout}
use Rattle.link_core.specs.declared.output.OutClass.TheVariants as classes
use Rattle.link_core.specs.declared.resolution.Bound.TheVariants as bounds
use Rattle.link_core.specs.declared.resolution.NameRow.{NameRow}
use Rattle.link_core.specs.Binding.{common_size}
use Rattle.link_core.specs.Commons.{bss, mentions_at}
use Rattle.link_core.specs.Layout.{output_position}
use Rattle.link_core.specs.OutputNames.{same_class}
use Rattle.link_core.specs.Planned.{Planned, row_at}
use Rattle.link_core.specs.Symbols.{export_by, import_row, null_row}
use Rattle.link_tables.specs.declared.output.FilledOutput.{FilledOutput}

-- ---- rows by the places of their names

-- `name_in` of the places of all strings of .dynstr is `row_name`
abbrev pub name_in : List ℕ → ℕ → ℕ
name_in starts i = option_map_or (λ at. at) (slice_get starts i) 0

abbrev pub import_in : List ℕ → Planned → ℕ × ℕ → Row
import_in starts j place = option_map_or (import_row (name_in starts place.0)) (row_at j place.1) null_row

abbrev pub export_in : List ℕ → Planned → Layout → ℕ × ℕ → Row
export_in starts j l place =
    option_map_or (λ row. export_by j l (name_in starts place.0) row place.1 row.bound) (row_at j place.1)
    null_row

abbrev pub row_bytes : Row → List ℕ
row_bytes row = symbol_bytes row Little W64

abbrev pub rows_bytes : List Row → List ℕ
rows_bytes rows = flat_map row_bytes rows

-- ---- what the rows of common symbols say

-- the map gives for each name the first room of it
abbrev pub AreFound : {S : Type 0} → List Room → IndexMap ℕ Room S → Type 0
AreFound rooms found = (n : ℕ) → get nat_eq found n ≡ find (λ r. r.name == n) rooms

abbrev pub size_in : {S : Type 0} → IndexMap ℕ Room S → ℕ → ℕ
size_in found n = option_map_or (λ r. r.size) (get nat_eq found n) 0

-- the size of each common symbol, and the number of the section of all
abbrev pub AreCommons : {S : Type 0} → Planned → IndexMap ℕ Room S → ℕ → Type 0
AreCommons j found section =
    (n : ℕ) (row : NameRow) → row_at j n ≡ Some row → row.bound ≡ bounds.Common
    → (size_in found n ≡ common_size (mentions_at j n)) × (section ≡ output_position j bss + 1)

abbrev pub is_bss : FilledOutput → Bool
is_bss o = same_name o.name (codes ".bss") && same_class o.class classes.B

abbrev pub is_zeroed : FilledOutput → Bool
is_zeroed o = same_class o.class classes.B

abbrev pub before_bss : List FilledOutput → List FilledOutput
before_bss outputs = take (position_or_len is_bss outputs) outputs

-- the number of .bss among so many sections: the sections of its class are the last ones
abbrev pub bss_number : List FilledOutput → ℕ → ℕ
bss_number outputs sections =
    sections + length (filter is_zeroed (before_bss outputs)) + 1
    - length (filter is_zeroed outputs)

-- ---- all rows

unfoldable pub all_bytes : List ℕ → Planned → Layout → List ℕ
all_bytes starts j l =
    row_bytes null_row
    ++ rows_bytes (map (import_in starts j) (enumerate_from 0 j.plan.imports))
    ++ rows_bytes (map (export_in starts j l) (enumerate_from (length j.plan.imports) j.plan.exports))
