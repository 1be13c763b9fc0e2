-- The interface that several interfaces are together, or how the first of them that don't agree differ.
use Rattle.std.specs.Prelude.{ℕ, ◌+◌, Bool, true, false, not, ◌&&◌, nat_eq, List, [], ◌∷◌, map, filter, Option, Some, None, Result, Ok, Err}
use Rattle.std.specs.List.{find, flat_map}
use Rattle.std.specs.Cmp.Lexicographic.{pointwise}
use Rattle.ifs_bytes.specs.Outcome.{◌>>=◌, check}
use Rattle.ifs_interface.specs.declared.symbol.Kind.{Kind}
use Rattle.ifs_interface.specs.declared.symbol.Kind.TheVariants.{NoType, Func, Object, Tls, Unknown}
use Rattle.ifs_interface.specs.declared.symbol.Symbol.{Symbol}
use Rattle.ifs_interface.specs.declared.target.Target.{Target}
use Rattle.ifs_interface.specs.Triple.{same_name}
use Rattle.ifs_interface.specs.Extracted.{in_order}
use Rattle.ifs_interface.specs.Interface.{InterfaceRecord, names_of}
use Rattle.ifs_edit.specs.declared.cause.MergeCause.{MergeCause}
use Rattle.ifs_edit.specs.declared.cause.MergeCause.TheVariants.{TargetMismatch, SonameMismatch, NeededMismatch, TypeMismatch, SizeMismatch, WeakMismatch, UndefinedMismatch, WarningMismatch}
use Rattle.ifs_edit.specs.declared.united.Field.{Field}
use Rattle.ifs_edit.specs.declared.united.Field.TheVariants as fields
use Rattle.ifs_edit.specs.Adjusted.{same_machine, same_order, same_width}
use Rattle.ifs_edit.specs.Stripped.{no_target}

-- ---- what all inputs have in common

abbrev pub same_optional : {X : Type 0} → (X → X → Bool) → Option X → Option X → Bool
same_optional same None None = true
same_optional same None (Some b) = false
same_optional same (Some a) None = false
same_optional same (Some a) (Some b) = same a b

-- field by field; so a triple isn't the same as its parts
abbrev pub same_target : Target → Target → Bool
same_target a b =
    same_optional same_name a.triple b.triple && same_optional same_machine a.machine b.machine
    && same_optional same_order a.order b.order && same_optional same_width a.width b.width

abbrev pub same_soname : Option (List ℕ) → Option (List ℕ) → Bool
same_soname a b = same_optional same_name a b

-- the same names in the same order
abbrev pub same_names : List (List ℕ) → List (List ℕ) → Bool
same_names a b = pointwise same_name a b

-- the input at a position against the first
unfoldable pub same_parts : InterfaceRecord → ℕ → InterfaceRecord → Result (Unit {0}) MergeCause
same_parts first at i = do
  _ ← check (same_target first.target i.target) (TargetMismatch at)
  _ ← check (same_soname first.soname i.soname) (SonameMismatch at)
  check (same_names first.needed i.needed) (NeededMismatch at)

-- inputs from a position on against the first
abbrev pub parts_agree : InterfaceRecord → ℕ → List InterfaceRecord → Result (Unit {0}) MergeCause
parts_agree first at [] = Ok tt
parts_agree first at (i ∷ list) = same_parts first at i >>= (λ _. parts_agree first (at + 1) list)

-- ---- symbols of one name

abbrev pub same_kind : Kind → Kind → Bool
same_kind NoType NoType = true
same_kind Func Func = true
same_kind Object Object = true
same_kind Tls Tls = true
same_kind Unknown Unknown = true
same_kind _ _ = false

abbrev pub same_bool : Bool → Bool → Bool
same_bool true b = b
same_bool false b = not b

abbrev pub same_in : Field → Symbol → Symbol → Bool
same_in fields.Kind a b = same_kind a.kind b.kind
same_in fields.Size a b = same_optional nat_eq a.size b.size
same_in fields.Weak a b = same_bool a.weak b.weak
same_in fields.Undefined a b = same_bool a.undefined b.undefined
same_in fields.Warning a b = same_optional same_name a.warning b.warning

-- two symbols of one name that differ in a field
abbrev pub mismatch : Field → Symbol → Symbol → MergeCause
mismatch fields.Kind a b = TypeMismatch a.name a.kind b.kind
mismatch fields.Size a b = SizeMismatch a.name a.size b.size
mismatch fields.Weak a b = WeakMismatch a.name
mismatch fields.Undefined a b = UndefinedMismatch a.name
mismatch fields.Warning a b = WarningMismatch a.name

abbrev pub unless_other : Field → Symbol → Option Symbol → Result (Unit {0}) MergeCause
unless_other field first None = Ok tt
unless_other field first (Some other) = Err (mismatch field first other)

-- the first symbol against each, in one field
unfoldable pub agree_in : Field → Symbol → List Symbol → Result (Unit {0}) MergeCause
agree_in field first symbols = unless_other field first (find (λ s. not (same_in field first s)) symbols)

unfoldable pub all_agree : Symbol → List Symbol → Result (Unit {0}) MergeCause
all_agree first symbols = do
  _ ← agree_in fields.Kind first symbols
  _ ← agree_in fields.Size first symbols
  _ ← agree_in fields.Weak first symbols
  _ ← agree_in fields.Undefined first symbols
  agree_in fields.Warning first symbols

-- what the symbols of one name are together; there is one at least
abbrev pub united : List Symbol → Result Symbol MergeCause
united [] = Ok (record { name = []; kind = NoType; size = None; weak = false; undefined = false; warning = None })
united (first ∷ others) = all_agree first (first ∷ others) >>= (λ _. Ok first)

-- ---- all symbols

-- the symbols of all inputs, those of the first input first
abbrev pub all_symbols : List InterfaceRecord → List Symbol
all_symbols list = flat_map (λ i. i.symbols) list

-- the symbols of each name that there is, in byte order of the names
unfoldable pub by_name : List Symbol → List (List Symbol)
by_name symbols = map (λ name. filter (λ s. same_name s.name name) symbols) (in_order (names_of symbols))

-- each group as one symbol, or the first that isn't one
abbrev pub united_each : List (List Symbol) → Result (List Symbol) MergeCause
united_each [] = Ok []
united_each (group ∷ groups) = united group >>= (λ symbol. united_each groups >>= (λ symbols. Ok (symbol ∷ symbols)))

-- ---- the interface

abbrev pub with_symbols : InterfaceRecord → List Symbol → InterfaceRecord
with_symbols i symbols = record i { symbols = symbols }

-- the first input with the symbols of all, or the first refusal; nobody asks for none
unfoldable pub merged : List InterfaceRecord → Result InterfaceRecord MergeCause
merged [] = Ok (record { soname = None; target = no_target; needed = []; symbols = [] })
merged (first ∷ others) = do
  _ ← parts_agree first 0 (first ∷ others)
  symbols ← united_each (by_name (all_symbols (first ∷ others)))
  Ok (with_symbols first symbols)
