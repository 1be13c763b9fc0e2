-- Symbols in byte order of their names, for the code alone.
use Rattle.std.specs.Prelude.{◌≡◌, ℕ, List, [], ◌∷◌, map, filter, Result, Vec}
use Rattle.std.specs.List.{prefix_len}
use Rattle.std.specs.List.Sorted.{IsSortedByKey}
use Rattle.std.specs.Result.{result_map_both}
use Rattle.std.specs.Ordering.{nat_cmp}
use Rattle.std.specs.Cmp.Lexicographic.{slice_cmp}
use denote.Ref.{Bor}
use Rattle.ifs_interface.specs.declared.symbol.Symbol.{Symbol}
use Rattle.ifs_interface.specs.Triple.{same_name}

-- the symbols that references point to
abbrev pub pointed : List (Bor Symbol) → List Symbol
pointed references = map (λ reference. reference.now) references

-- the symbols stand in byte order of their names
abbrev pub AreInNameOrder : List (Bor Symbol) → Type 0
AreInNameOrder references = IsSortedByKey (λ reference. reference.now.name) (slice_cmp nat_cmp) references

-- sorted has the symbols in byte order of their names, those of one name in the order that they had
pub record IsSortedByName (symbols : List Symbol) (sorted : List (Bor Symbol)) : Type 0 where
  pub rising : AreInNameOrder sorted
  pub same_symbols : (name : List ℕ) → filter (λ s. same_name s.name name) (pointed sorted) ≡ filter (λ s. same_name s.name name) symbols

-- how many symbols at the front have the name of the first
abbrev pub run_length : List Symbol → ℕ
run_length [] = 0
run_length (s ∷ symbols) = prefix_len (λ later. same_name later.name s.name) (s ∷ symbols)

-- the items of a vector, where there is one
abbrev pub items_of : {X A E : Type 0} → Result (Vec X A) E → Result (List X) E
items_of result = result_map_both (λ out. out.items) (λ cause. cause) result
