-- Rows of a library in byte order of their names.
use Rattle.std.specs.Prelude.{ℕ, List, [], ◌∷◌, map}
use Rattle.std.specs.List.{find, prefix_len}
use Rattle.std.specs.List.Sorted.{IsSortedByKey}
use Rattle.std.specs.Ordering.{nat_cmp}
use Rattle.std.specs.Cmp.Lexicographic.{slice_cmp}
use denote.Ref.{Bor}
use Rattle.ifs_interface.specs.declared.row.DynRow.{DynRow}
use Rattle.ifs_interface.specs.declared.symbol.Symbol.{Symbol}
use Rattle.ifs_interface.specs.Triple.{same_name}
use Rattle.ifs_interface.specs.Extracted.{symbol_named, visible_names, is_defined, described, wanted_symbol}

-- the rows that references point to
abbrev pub pointed : List (Bor DynRow) → List DynRow
pointed references = map (λ reference. reference.now) references

-- the rows stand in byte order of their names
abbrev pub AreInNameOrder : List (Bor DynRow) → Type 0
AreInNameOrder references = IsSortedByKey (λ reference. reference.now.name) (slice_cmp nat_cmp) references

-- one symbol for each name of the rows
abbrev pub symbols_by_name : List DynRow → List Symbol
symbols_by_name rows = map (symbol_named rows) (visible_names rows)

-- how many rows at the front have the name of the first
abbrev pub run_length : List DynRow → ℕ
run_length [] = 0
run_length (row ∷ rows) = prefix_len (λ later. same_name later.name row.name) (row ∷ rows)

-- the symbol of the name that all these rows have; there is one row at least
abbrev pub symbol_of_run : List DynRow → Symbol
symbol_of_run [] = wanted_symbol [] []
symbol_of_run (row ∷ rows) = described row.name (find is_defined (row ∷ rows)) (row ∷ rows)
