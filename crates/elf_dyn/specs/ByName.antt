-- Rows in byte order of their names. A library keeps the places of its rows in that order, and the places of
-- those that define their name.
use Rattle.std.specs.Prelude.{◌≡◌, ℕ, Bool, true, List, slice_get, nat_lt, length}
use Rattle.std.specs.List.{filter_map, list_all}
use Rattle.std.specs.List.Sorted.{IsSortedByKey}
use Rattle.std.specs.Ordering.{nat_cmp}
use Rattle.std.specs.Cmp.Lexicographic.{slice_cmp}
use Rattle.ifs_interface.specs.declared.row.DynRow.{DynRow}
use Rattle.ifs_interface.specs.Extracted.{rows_named}

-- all are places of rows
abbrev pub are_places : List DynRow → List ℕ → Bool
are_places rows places = list_all (λ place. nat_lt place (length rows)) places

-- the rows at places
abbrev pub rows_at : List DynRow → List ℕ → List DynRow
rows_at rows places = filter_map (slice_get rows) places

-- the rows stand in byte order of their names
abbrev pub AreInNameOrder : List DynRow → Type 0
AreInNameOrder rows = IsSortedByKey (λ row. row.name) (slice_cmp nat_cmp) rows

-- sorted has the rows in byte order of their names, those of one name in the order that they had
pub record IsSortedByName (rows sorted : List DynRow) : Type 0 where
  pub rising : AreInNameOrder sorted
  pub same_rows : (name : List ℕ) → rows_named name sorted ≡ rows_named name rows

-- places are those of some of all rows, in that order
pub record IsIndex (all some : List DynRow) (places : List ℕ) : Type 0 where
  pub are_places : are_places all places ≡ true
  pub sorted : IsSortedByName some (rows_at all places)
