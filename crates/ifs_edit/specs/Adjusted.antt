-- What an interface becomes under the options of an adjustment, or the first field of its target that is given
-- otherwise than it was.
use Rattle.std.specs.Prelude.{ℕ, Bool, true, false, not, ◌&&◌, ◌==◌, List, [], map, filter, codes, Option, Some, None, Result, Ok, if◌then◌else◌}
use Rattle.std.specs.List.{list_any}
use Rattle.ifs_bytes.specs.Outcome.{◌>>=◌, check}
use Rattle.ifs_bytes.specs.declared.form.Order.{Order}
use Rattle.ifs_bytes.specs.declared.form.Order.TheVariants.{Little, Big}
use Rattle.ifs_bytes.specs.declared.form.Width.{Width}
use Rattle.ifs_bytes.specs.declared.form.Width.TheVariants.{W32, W64}
use Rattle.ifs_interface.specs.declared.symbol.Symbol.{Symbol}
use Rattle.ifs_interface.specs.declared.target.Target.{Target}
use Rattle.ifs_interface.specs.declared.target.TargetField.{TargetField}
use Rattle.ifs_interface.specs.declared.target.TargetField.TheVariants.{Arch, BitWidth, Endianness, Triple}
use Rattle.ifs_interface.specs.Arch.{arch_name}
use Rattle.ifs_interface.specs.Triple.{same_name}
use Rattle.ifs_interface.specs.Parts.{parts_of}
use Rattle.ifs_interface.specs.Interface.{InterfaceRecord}
use Rattle.ifs_edit.specs.declared.adjusted.AdjustOptions.{AdjustOptions}
use Rattle.ifs_edit.specs.declared.cause.AdjustCause.{AdjustCause}
use Rattle.ifs_edit.specs.declared.cause.AdjustCause.TheVariants.{TargetConflict}
use Rattle.ifs_edit.specs.Glob.{matches}

-- ---- the target

abbrev pub width_name : Width → List ℕ
width_name W32 = codes "32"
width_name W64 = codes "64"

abbrev pub order_name : Order → List ℕ
order_name Little = codes "little"
order_name Big = codes "big"

abbrev pub same_width : Width → Width → Bool
same_width W32 W32 = true
same_width W32 W64 = false
same_width W64 W32 = false
same_width W64 W64 = true

abbrev pub same_order : Order → Order → Bool
same_order Little Little = true
same_order Little Big = false
same_order Big Little = false
same_order Big Big = true

abbrev pub same_machine : ℕ → ℕ → Bool
same_machine a b = a == b

-- what is there and what is given are the same, where both are known; else the conflict, with both as text
abbrev pub agree : {X : Type 0} → TargetField → (X → X → Bool) → (X → List ℕ) → Option X → Option X → Result (Unit {0}) AdjustCause
agree field same name None given = Ok tt
agree field same name (Some there) None = Ok tt
agree field same name (Some there) (Some given) = check (same there given) (TargetConflict field (name there) (name given))

abbrev pub triples_agree : Option (List ℕ) → Option (List ℕ) → Result (Unit {0}) AdjustCause
triples_agree there given = agree Triple same_name (λ triple. triple) there given

abbrev pub machines_agree : Option ℕ → Option ℕ → Result (Unit {0}) AdjustCause
machines_agree there given = agree Arch same_machine arch_name there given

abbrev pub widths_agree : Option Width → Option Width → Result (Unit {0}) AdjustCause
widths_agree there given = agree BitWidth same_width width_name there given

abbrev pub orders_agree : Option Order → Option Order → Result (Unit {0}) AdjustCause
orders_agree there given = agree Endianness same_order order_name there given

-- the triples are looked at first, then the parts of both targets
unfoldable pub targets_agree : Target → Target → Result (Unit {0}) AdjustCause
targets_agree there given = do
  _ ← triples_agree there.triple given.triple
  _ ← machines_agree (parts_of there).machine (parts_of given).machine
  _ ← widths_agree (parts_of there).width (parts_of given).width
  orders_agree (parts_of there).order (parts_of given).order

abbrev pub or_given : {X : Type 0} → Option X → Option X → Option X
or_given (Some there) given = Some there
or_given None given = given

-- a given triple stands in place of all fields; a triple that is there has them all; else absent fields are filled
abbrev pub filled_by : Option (List ℕ) → Option (List ℕ) → Target → Target → Target
filled_by (Some given_triple) triple there given = given
filled_by None (Some triple) there given = there
filled_by None None there given = record {
  triple = None;
  machine = or_given there.machine given.machine;
  order = or_given there.order given.order;
  width = or_given there.width given.width;
}

abbrev pub filled : Target → Target → Target
filled there given = filled_by given.triple there.triple there given

-- ---- the symbols

-- a symbol stays where no pattern matches its name, and an undefined one where these aren't stripped
abbrev pub is_kept : AdjustOptions → Symbol → Bool
is_kept options s = not (list_any (λ glob. matches glob s.name) options.exclude) && not (options.strip_undefined && s.undefined)

abbrev pub sized : Bool → Symbol → Symbol
sized strip s = if strip then record s { size = None } else s

unfoldable pub kept_symbols : AdjustOptions → List Symbol → List Symbol
kept_symbols options symbols = map (sized options.strip_size) (filter (is_kept options) symbols)

-- ---- the interface

abbrev pub needed_by : Bool → List (List ℕ) → List (List ℕ)
needed_by strip needed = if strip then [] else needed

unfoldable pub changed : InterfaceRecord → AdjustOptions → InterfaceRecord
changed i options = record {
  soname = or_given options.soname i.soname;
  target = filled i.target options.given;
  needed = needed_by options.strip_needed i.needed;
  symbols = kept_symbols options i.symbols;
}

-- the interface as it is changed, or the first conflict of the targets
unfoldable pub adjusted : InterfaceRecord → AdjustOptions → Result InterfaceRecord AdjustCause
adjusted i options = do
  _ ← targets_agree i.target options.given
  Ok (changed i options)
