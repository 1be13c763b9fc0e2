-- Symbols that stand several times, as one: with the targets that each of them is there for.
use Rattle.std.specs.Prelude.{◌≡◌, ℕ, List, [], ◌∷◌, map}
use Rattle.std.specs.Ordering.{nat_cmp}
use Rattle.std.specs.Cmp.Lexicographic.{slice_cmp}
use Rattle.std.specs.List.Sorted.{IsSortedByKey}
use Rattle.std.specs.BTreeSet.{insert_key}
use Rattle.tbd_core.specs.declared.symbol.TbdSymbol.{TbdSymbol}
use Rattle.tbd_core.specs.declared.symbol.Section.TheVariants.{Undefined}
use Rattle.tbd_core.specs.declared.symbol.SymbolKind.TheVariants.{Global}
use Rattle.tbd_core.specs.declared.symbol.Part.TheVariants.{Any}
use Rattle.tbd_core.specs.Keys.{key_of}
use Rattle.tbd_core.specs.Groups.{of_key, grouped}

-- ascending positions, with others put at their places, each once
abbrev pub with_places : List ℕ → List ℕ → List ℕ
with_places places [] = places
with_places places (p ∷ more) = with_places (insert_key nat_cmp places p) more

-- with those of each symbol
abbrev pub with_all_places : List ℕ → List TbdSymbol → List ℕ
with_all_places places [] = places
with_all_places places (s ∷ symbols) = with_all_places (with_places places s.targets) symbols

-- the positions that one of the symbols has
unfoldable pub union : List TbdSymbol → List ℕ
union symbols = with_all_places [] symbols

-- symbols of one key as one; nobody asks for none
abbrev pub united_symbol : List TbdSymbol → TbdSymbol
united_symbol [] = record { section = Undefined; kind = Global; segment = Any; name = []; targets = [] }
united_symbol (s ∷ symbols) = record s { targets = union (s ∷ symbols) }

-- a symbol for each key, in order of the keys
abbrev pub united : List TbdSymbol → List TbdSymbol
united symbols = map united_symbol (grouped key_of symbols)

-- sorted has the symbols in order of their keys, those of one key in the order that they had; for the code alone
pub record IsSortedByOrder (symbols sorted : List TbdSymbol) : Type 0 where
  pub rising : IsSortedByKey key_of (slice_cmp nat_cmp) sorted
  pub same_symbols : (k : List ℕ) → of_key key_of k sorted ≡ of_key key_of k symbols
