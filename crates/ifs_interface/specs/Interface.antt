-- An interface, and which parts make one.
use Rattle.std.specs.Prelude.{◌≡◌, ℕ, ◌<◌, Bool, true, false, not, ◌&&◌, ◌==◌, List, [], ◌∷◌, map, Option, Some, None, Result, MatchResult, count_by, is_some, is_none, IsPermutation, if◌then◌else◌}
use Rattle.std.specs.List.{list_all}
use Rattle.std.specs.Ordering.{nat_cmp, is_lt}
use Rattle.std.specs.Cmp.Lexicographic.{slice_cmp}
use Rattle.ifs_interface.specs.declared.symbol.Symbol.{Symbol}
use Rattle.ifs_interface.specs.declared.target.Target.{Target}
use Rattle.ifs_interface.specs.Triple.{same_name, parts_of_triple}

pub record InterfaceRecord : Type 0 where
  pub soname : Option (List ℕ)
  pub target : Target
  pub needed : List (List ℕ)
  pub symbols : List Symbol

-- one name comes before the other, byte by byte
abbrev pub comes_before : List ℕ → List ℕ → Bool
comes_before a b = is_lt (slice_cmp nat_cmp a b)

-- each name comes before all that follow it
abbrev pub ascends : List (List ℕ) → Bool
ascends [] = true
ascends (n ∷ ns) = list_all (comes_before n) ns && ascends ns

-- a proper name has at least one byte, and no NUL
abbrev pub is_proper_name : List ℕ → Bool
is_proper_name [] = false
is_proper_name (b ∷ bs) = list_all (λ c. not (c == 0)) (b ∷ bs)

abbrev pub is_proper_soname : Option (List ℕ) → Bool
is_proper_soname None = true
is_proper_soname (Some name) = is_proper_name name

-- a target with a triple has no other field, and its triple is known
abbrev pub is_proper_target : Option (List ℕ) → Target → Bool
is_proper_target None target = true
is_proper_target (Some triple) target =
    is_some (parts_of_triple triple) && is_none target.machine && is_none target.order && is_none target.width

abbrev pub names_of : List Symbol → List (List ℕ)
names_of symbols = map (λ s. s.name) symbols

-- the first name that is the same as the one before it
abbrev pub repeated_after : List ℕ → List (List ℕ) → Option (List ℕ)
repeated_after before [] = None
repeated_after before (n ∷ ns) = if same_name n before then Some n else repeated_after n ns

abbrev pub first_repeated : List (List ℕ) → Option (List ℕ)
first_repeated [] = None
first_repeated (n ∷ ns) = repeated_after n ns

-- the parts of an interface, its symbols in any order and with any repeats
pub record AreParts (soname : Option (List ℕ)) (target : Target) (needed : List (List ℕ)) (symbols : List Symbol) : Type 0 where
  pub soname_is_proper : is_proper_soname soname ≡ true
  pub target_is_proper : is_proper_target target.triple target ≡ true
  pub needed_are_proper : list_all is_proper_name needed ≡ true
  pub names_are_proper : list_all is_proper_name (names_of symbols) ≡ true

-- an interface: the symbols stand in byte order of their names, each name once
pub record IsInterface (i : InterfaceRecord) : Type 0 where
  pub parts : AreParts i.soname i.target i.needed i.symbols
  pub ascending : ascends (names_of i.symbols) ≡ true

-- i is the interface of these parts
pub record IsOf (soname : Option (List ℕ)) (target : Target) (needed : List (List ℕ)) (symbols : List Symbol) (i : InterfaceRecord) : Type 0 where
  pub soname_is : i.soname ≡ soname
  pub target_is : i.target ≡ target
  pub needed_is : i.needed ≡ needed
  pub symbols_are : IsPermutation symbols i.symbols
  pub ascending : ascends (names_of i.symbols) ≡ true

-- the name stands at least twice, and no lesser name does
pub record IsLeastRepeated (names : List (List ℕ)) (name : List ℕ) : Type 0 where
  pub repeated : 1 < count_by (same_name name) names
  pub least : (other : List ℕ) → 1 < count_by (same_name other) names → comes_before other name ≡ false

-- the interface of these parts, or the least name that two symbols have
abbrev pub Makes : Option (List ℕ) → Target → List (List ℕ) → List Symbol → Result InterfaceRecord (List ℕ) → Type 0
Makes soname target needed symbols result =
    MatchResult result (IsOf soname target needed symbols) (IsLeastRepeated (names_of symbols))
