-- The normal form of a library's parts.
use Rattle.std.specs.Prelude.{ℕ, ◌+◌, Bool, true, false, not, ◌&&◌, nat_le, nat_lt, List, [], ◌∷◌, length, map, Option, Some, None, Result, Ok, Err, if◌then◌else◌}
use Rattle.std.specs.List.{list_any, list_all}
use Rattle.std.specs.Option.{option_or}
use Rattle.ifs_interface.specs.Interface.{comes_before, is_proper_name}
use Rattle.ifs_interface.specs.Triple.{same_name}
use Rattle.tbd_core.specs.declared.symbol.TbdSymbol.{TbdSymbol}
use Rattle.tbd_core.specs.declared.dylib.TbdTarget.{TbdTarget}
use Rattle.tbd_core.specs.declared.dylib.Named.{Named}
use Rattle.tbd_core.specs.declared.dylib.DylibParts.{DylibParts}
use Rattle.tbd_core.specs.declared.dylib.DylibField.{DylibField}
use Rattle.tbd_core.specs.declared.dylib.DylibField.TheVariants as field
use Rattle.tbd_core.specs.Keys.{key_of}

-- ---- targets

-- no name stands again behind it
abbrev pub distinct : List TbdTarget → Bool
distinct [] = true
distinct (t ∷ ts) = not (list_any (λ u. same_name u.name t.name) ts) && distinct ts

abbrev pub is_some_list : {X : Type 0} → List X → Bool
is_some_list [] = false
is_some_list (x ∷ xs) = true

unfoldable pub are_targets : List TbdTarget → Bool
are_targets targets = is_some_list targets && list_all (λ t. is_proper_name t.name) targets && distinct targets

-- ---- lists of positions

-- ascending positions from least on, below n
abbrev pub ascend_from : ℕ → ℕ → List ℕ → Bool
ascend_from least n [] = true
ascend_from least n (p ∷ ps) = nat_le least p && nat_lt p n && ascend_from (p + 1) n ps

-- one or more positions below n, ascending
unfoldable pub are_places : ℕ → List ℕ → Bool
are_places n places = is_some_list places && ascend_from 0 n places

-- ---- lists of names

-- a name comes before the one that follows it, if one does
abbrev pub comes_first : List ℕ → List (List ℕ) → Bool
comes_first key [] = true
comes_first key (next ∷ keys) = comes_before key next

abbrev pub rise : List (List ℕ) → Bool
rise [] = true
rise (key ∷ keys) = comes_first key keys && rise keys

unfoldable pub is_named : ℕ → Named → Bool
is_named n x = is_proper_name x.name && are_places n x.targets

-- names in byte order, each once
unfoldable pub are_names : ℕ → List Named → Bool
are_names n xs = list_all (is_named n) xs && rise (map (λ x. x.name) xs)

unfoldable pub is_symbol : ℕ → TbdSymbol → Bool
is_symbol n s = is_proper_name s.name && are_places n s.targets

-- symbols in their order, each key once
unfoldable pub are_symbols : ℕ → List TbdSymbol → Bool
are_symbols n symbols = list_all (is_symbol n) symbols && rise (map key_of symbols)

-- ---- the whole

abbrev pub unless_normal : Bool → DylibField → Option DylibField
unless_normal holds field = if holds then None else Some field

-- how many targets there are
abbrev pub count_of : DylibParts → ℕ
count_of parts = length parts.targets

-- the lists of names behind the install name
unfoldable pub broken_list : DylibParts → Option DylibField
broken_list parts =
    option_or (unless_normal (are_names (count_of parts) parts.umbrellas) field.Umbrellas)
    (option_or (unless_normal (are_names (count_of parts) parts.clients) field.Clients)
    (option_or (unless_normal (are_names (count_of parts) parts.reexported) field.Reexported)
    (option_or (unless_normal (are_names (count_of parts) parts.rpaths) field.Rpaths)
    (unless_normal (are_symbols (count_of parts) parts.symbols) field.Symbols))))

-- the first field that isn't in normal form
unfoldable pub first_broken : DylibParts → Option DylibField
first_broken parts =
    option_or (unless_normal (are_targets parts.targets) field.Targets)
    (option_or (unless_normal (are_names (count_of parts) parts.flags) field.Flags)
    (option_or (unless_normal (is_proper_name parts.install_name) field.InstallName)
    (broken_list parts)))

-- the parts themselves, unless one is broken
abbrev pub made_by : Option DylibField → DylibParts → Result DylibParts DylibField
made_by None parts = Ok parts
made_by (Some broken) parts = Err broken

abbrev pub made : DylibParts → Result DylibParts DylibField
made parts = made_by (first_broken parts) parts
