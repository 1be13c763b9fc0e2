-- Rows at places, and what a search asks of them.
use Rattle.std.specs.Prelude.{ℕ, Bool, false, List, slice_get, Option, Some, None, if◌then◌else◌}
use Rattle.ifs_interface.specs.declared.row.DynRow.{DynRow}
use Rattle.ifs_interface.specs.Triple.{same_name}
use Rattle.ifs_interface.specs.Interface.{comes_before}
use Rattle.ifs_interface.specs.Extracted.{is_defined}

-- a test of the row at a place, which fails where there is none
abbrev pub passes : (DynRow → Bool) → Option DynRow → Bool
passes test None = false
passes test (Some row) = test row

abbrev pub is_defined_at : List DynRow → ℕ → Bool
is_defined_at rows place = passes is_defined (slice_get rows place)

abbrev pub comes_before_at : List DynRow → List ℕ → ℕ → Bool
comes_before_at rows name place = passes (λ row. comes_before row.name name) (slice_get rows place)

-- a row, if it has the name
abbrev pub if_named : List ℕ → Option DynRow → Option DynRow
if_named name None = None
if_named name (Some row) = if same_name row.name name then Some row else None
