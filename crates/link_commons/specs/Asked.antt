-- What objects ask for under a name.
use Rattle.std.specs.Prelude.{ℕ, Bool, not, ◌&&◌, List, [], ◌∷◌, filter, fold, max, unwrap_or}
use Rattle.std.specs.Cmp.Lexicographic.{slice_cmp}
use Rattle.std.specs.Ordering.{nat_cmp}
use Rattle.std.specs.BTreeMap.{BTreeMap, get_by}
use denote.Ref.{Bor}
use Rattle.ifs_interface.specs.Triple.{same_name}
use Rattle.elf_object.specs.declared.symbol.ObjSymbol.{ObjSymbol}
use Rattle.elf_object.specs.Record.{ObjectRecord}
use Rattle.link_core.specs.Mentions.{is_common_place, is_local}
use Rattle.link_commons.specs.declared.asked.Asked.{Asked}

abbrev pub nothing : Asked
nothing = record { align = 0; size = 0 }

-- with one more row
abbrev pub more : Asked → ObjSymbol → Asked
more asked row = record { align = max asked.align row.value; size = max asked.size row.size }

-- with those rows that pass
abbrev pub more_of : Asked → (ObjSymbol → Bool) → List ObjSymbol → Asked
more_of asked test rows = fold more asked (filter test rows)

-- a row that other objects see asks for room under this name
abbrev pub asks : List ℕ → ObjSymbol → Bool
asks name row = not (is_local row) && (same_name row.name name && is_common_place row.place)

-- with what the objects ask for
abbrev pub gathered : List ℕ → Asked → List ObjectRecord → Asked
gathered name asked [] = asked
gathered name asked (o ∷ os) = gathered name (more_of asked (asks name) o.symbols) os

-- what a map has under a name
abbrev pub asked_in : BTreeMap (Bor (List ℕ)) Asked → List ℕ → Asked
asked_in asked name = unwrap_or (get_by (λ k. slice_cmp nat_cmp name k.now) asked) nothing
