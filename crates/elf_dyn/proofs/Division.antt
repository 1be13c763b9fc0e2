-- Whole records take no more room than there is.
use Rattle.std.proofs.Common.{ℕ, ◌+◌, ◌*◌, ◌/◌, ◌<◌, ◌≤◌, List, length, lit<, arith}
use Rattle.std.proofs.Math.Nat.{div-mul-le_self, mul-le-mul_left}
use Rattle.ifs_bytes.specs.declared.form.Width.{Width}
use Rattle.ifs_bytes.specs.declared.form.Width.TheVariants.{W32, W64}
use Rattle.elf_file.specs.Tables.{symbol_size, dynamic_size}
use Rattle.elf_dyn.specs.declared.places.Entries.{Entries}
use Rattle.elf_dyn.specs.declared.places.Rows.{Rows}
use Rattle.elf_dyn.specs.Entries.{EntriesLie}
use Rattle.elf_dyn.specs.Rows.{RowsLie}

pub whole_records : (size each : ℕ) → size / each * each ≤ size
whole_records size each = div-mul-le_self size each

no_more : (from count each len : ℕ) → 0 < each → from + count * each ≤ len → count ≤ len
no_more from count each len some fits = omega (arith, mul-le-mul_left count some, fits)

rows_have_bytes : (width : Width) → 0 < symbol_size width
rows_have_bytes W32 = lit< tt
rows_have_bytes W64 = lit< tt

entries_have_bytes : (width : Width) → 0 < dynamic_size width
entries_have_bytes W32 = lit< tt
entries_have_bytes W64 = lit< tt

-- there are no more rows, nor more entries, than the file has bytes
pub few_rows : (file : List ℕ) (r : Rows) → RowsLie file r → r.count ≤ length file
few_rows file r lie = no_more r.from r.count (symbol_size r.width) (length file) (rows_have_bytes r.width) lie

pub few_entries : (file : List ℕ) (e : Entries) → EntriesLie file e → e.room ≤ length file
few_entries file e lie = no_more e.from e.room (dynamic_size e.width) (length file) (entries_have_bytes e.width) lie
