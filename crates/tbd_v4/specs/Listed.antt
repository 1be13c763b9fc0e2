-- Names in the lists of a text, with the targets that each is said for.
use Rattle.std.specs.Prelude.{◌≡◌, ℕ, Bool, ◌==◌, List, map, filter}
use Rattle.tbd_core.specs.declared.symbol.Section.{Section}
use Rattle.tbd_core.specs.declared.symbol.SymbolKind.{SymbolKind}
use Rattle.tbd_core.specs.declared.symbol.SymbolKind.TheVariants.{Global, ObjcClass, ObjcEhType, ObjcIvar, Weak, ThreadLocal}
use Rattle.tbd_core.specs.declared.symbol.TbdSymbol.{TbdSymbol}
use Rattle.tbd_core.specs.declared.dylib.Named.{Named}
use Rattle.tbd_core.specs.Keys.{section_rank}
use Rattle.tbd_core.specs.Groups.{grouped}
use Rattle.tbd_v4.specs.declared.listed.NameList.{NameList}
use Rattle.tbd_v4.specs.declared.listed.NameList.TheVariants as lists
use Rattle.std.specs.List.Sorted.{IsSortedByKey}
use Rattle.std.specs.Ordering.{nat_cmp}
use Rattle.std.specs.Cmp.Lexicographic.{slice_cmp}

-- a name, the list of a group that it stands in, and the positions of its targets
pub record Listed : Type 0 where
  pub list : NameList
  pub name : List ℕ
  pub targets : List ℕ

abbrev pub list_rank : NameList → ℕ
list_rank lists.Symbols = 0
list_rank lists.ObjcClasses = 1
list_rank lists.ObjcEhTypes = 2
list_rank lists.ObjcIvars = 3
list_rank lists.WeakSymbols = 4
list_rank lists.ThreadLocalSymbols = 5
list_rank lists.Umbrellas = 6
list_rank lists.Clients = 7
list_rank lists.Libraries = 8

abbrev pub list_of : SymbolKind → NameList
list_of Global = lists.Symbols
list_of ObjcClass = lists.ObjcClasses
list_of ObjcEhType = lists.ObjcEhTypes
list_of ObjcIvar = lists.ObjcIvars
list_of Weak = lists.WeakSymbols
list_of ThreadLocal = lists.ThreadLocalSymbols

abbrev pub listed_name : NameList → Named → Listed
listed_name list n = record { list = list; name = n.name; targets = n.targets }

abbrev pub listed_names : NameList → List Named → List Listed
listed_names list names = map (listed_name list) names

abbrev pub listed_symbol : TbdSymbol → Listed
listed_symbol s = record { list = list_of s.kind; name = s.name; targets = s.targets }

abbrev pub is_of : Section → TbdSymbol → Bool
is_of section s = section_rank s.section == section_rank section

-- the symbols of a section
abbrev pub listed_symbols : Section → List TbdSymbol → List Listed
listed_symbols section symbols = map listed_symbol (filter (is_of section) symbols)

abbrev pub targets_of : Listed → List ℕ
targets_of e = e.targets

-- names with equal targets form a group; groups stand in the order of these
abbrev pub groups : List Listed → List (List Listed)
groups entries = grouped targets_of entries

-- sorted has the names in order of their targets, those of equal targets in the order that they had; for the code
-- alone
pub record IsSortedByTargets (entries sorted : List Listed) : Type 0 where
  pub rising : IsSortedByKey targets_of (slice_cmp nat_cmp) sorted
  pub same_groups : groups sorted ≡ groups entries
