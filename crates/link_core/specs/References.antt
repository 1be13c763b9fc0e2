-- The references of a link, and the symbols that they name.
use Rattle.std.specs.Prelude.{ℕ, ◌==◌, Bool, true, false, if◌then◌else◌, List, [], map, filter, flat_map, position, slice_get, Option, Some, None, option_map, option_and_then, unwrap_or}
use Rattle.std.specs.List.{enumerate_from}
use Rattle.std.specs.Option.{option_map_or}
use Rattle.ifs_interface.specs.declared.fact.Fact.{Fact}
use Rattle.ifs_interface.specs.declared.fact.Fact.TheVariants as facts
use Rattle.ifs_interface.specs.Triple.{same_name}
use Rattle.elf_object.specs.declared.reference.Reference.{Reference}
use Rattle.elf_object.specs.declared.symbol.ObjPlace.{ObjPlace}
use Rattle.elf_object.specs.declared.symbol.ObjPlace.TheVariants.{Undefined, Absolute, Common, In}
use Rattle.elf_object.specs.declared.symbol.ObjSymbol.{ObjSymbol}
use Rattle.elf_object.specs.Record.{ObjectRecord}
use Rattle.link_core.specs.declared.need.RefState.{RefState}
use Rattle.link_core.specs.declared.need.RefState.TheVariants.{Own, Abs, Zero, Imp}
use Rattle.link_core.specs.declared.plan.SymbolId.{SymbolId}
use Rattle.link_core.specs.declared.plan.SymbolId.TheVariants as ids
use Rattle.link_core.specs.declared.refusal.At.{At}
use Rattle.link_core.specs.declared.resolution.Bound.{Bound}
use Rattle.link_core.specs.declared.resolution.Bound.TheVariants as bounds
use Rattle.link_core.specs.declared.resolution.Member.{Member}
use Rattle.link_core.specs.declared.resolution.NameRow.{NameRow}
use Rattle.link_core.specs.declared.resolution.Resolution.{Resolution}
use Rattle.link_core.specs.Kept.{is_kept}
use Rattle.link_core.specs.Mentions.{is_local}
use Rattle.link_core.specs.OutputNames.{is_threaded}

-- ---- all references

-- a reference, with its object and the object's position
pub record Use : Type 0 where
  pub object : ℕ
  pub record_of : ObjectRecord
  pub reference : Reference

abbrev pub uses_in : List Member → ℕ × ObjectRecord → List Use
uses_in dropped o =
    map (λ r. record { object = o.0; record_of = o.1; reference = r })
    (filter (λ r. is_kept dropped o.0 o.1 r.section) o.1.references)

-- the references of kept sections, by object, section and index
unfoldable pub uses_of : List Member → List ObjectRecord → List Use
uses_of dropped objects = flat_map (uses_in dropped) (enumerate_from 0 objects)

abbrev pub at_of : Use → At
at_of u = record { object = u.object; section = u.reference.section; index = u.reference.index }

-- ---- the symbol of a reference

-- the symbol, what it is to the made file, whether it is thread-local, and its name and class where it has any
pub record Target : Type 0 where
  pub symbol : SymbolId
  pub state : RefState
  pub threaded : Bool
  pub name : List ℕ
  pub class : Fact

abbrev pub local_target : SymbolId → RefState → Bool → Target
local_target symbol state threaded =
    record { symbol = symbol; state = state; threaded = threaded; name = []; class = facts.NoType }

-- symbol 0, and all of an object that stands for no more
abbrev pub no_symbol : ℕ → Target
no_symbol object = local_target (ids.Local object 0) Abs false

-- the section is there, and each thread has its own
abbrev pub is_threaded_in : ObjectRecord → ℕ → Bool
is_threaded_in o section = option_map_or is_threaded (slice_get o.sections section) false

-- a local symbol in a section that isn't kept has no place
abbrev pub local_at : List Member → ℕ → ObjectRecord → ℕ → ObjPlace → Option Target
local_at dropped object o row Undefined = Some (no_symbol object)
local_at dropped object o row Common = Some (no_symbol object)
local_at dropped object o row Absolute = Some (local_target (ids.Local object row) Abs false)
local_at dropped object o row (In section) =
    if is_kept dropped object o section then Some (local_target (ids.Local object row) Own (is_threaded_in o section))
    else None

-- a definition that has a place in a section, or only a value
abbrev pub state_at : ObjPlace → RefState
state_at Undefined = Abs
state_at Absolute = Abs
state_at Common = Abs
state_at (In section) = Own

-- the row of an object, and where it is defined
abbrev pub symbol_of : List ObjectRecord → ℕ → ℕ → Option ObjSymbol
symbol_of objects object row = option_and_then (λ o. slice_get o.symbols row) (slice_get objects object)

abbrev pub place_of : List ObjectRecord → ℕ → ℕ → ObjPlace
place_of objects object row = option_map_or (λ s. s.place) (symbol_of objects object row) Undefined

-- what is bound to the made file itself is its own, or a number; the rest is found when it is loaded
abbrev pub state_by : List ObjectRecord → Bound → RefState
state_by objects (bounds.Object object row) = state_at (place_of objects object row)
state_by objects bounds.Common = Own
state_by objects bounds.Provided = Own
state_by objects (bounds.Library library) = Imp
state_by objects bounds.Import = Imp
state_by objects bounds.Zero = Zero

unfoldable pub state_of_name : List ObjectRecord → NameRow → RefState
state_of_name objects row = if row.preemptible then Imp else state_by objects row.bound

abbrev pub is_threaded_at : List ObjectRecord → ℕ → ObjPlace → Bool
is_threaded_at objects object Undefined = false
is_threaded_at objects object Absolute = false
is_threaded_at objects object Common = false
is_threaded_at objects object (In section) = option_map_or (λ o. is_threaded_in o section) (slice_get objects object) false

-- room and addresses that the link provides are no thread's own
abbrev pub is_threaded_by : List ObjectRecord → Bound → Bool
is_threaded_by objects (bounds.Object object row) = is_threaded_at objects object (place_of objects object row)
is_threaded_by objects bounds.Common = false
is_threaded_by objects bounds.Provided = false
is_threaded_by objects (bounds.Library library) = false
is_threaded_by objects bounds.Import = false
is_threaded_by objects bounds.Zero = false

abbrev pub is_tls : Fact → Bool
is_tls facts.NoType = false
is_tls facts.Func = false
is_tls facts.Object = false
is_tls facts.Tls = true

abbrev pub is_imported : RefState → Bool
is_imported Own = false
is_imported Abs = false
is_imported Zero = false
is_imported Imp = true

-- of what is found when the file is loaded its class says so, and of the rest its section
unfoldable pub is_threaded_name : List ObjectRecord → NameRow → Bool
is_threaded_name objects row =
    if is_imported (state_of_name objects row) then is_tls row.class else is_threaded_by objects row.bound

-- the position of a name
abbrev pub place_of_name : Resolution → List ℕ → ℕ
place_of_name r name = unwrap_or (position (λ row. same_name row.name name) r.names) 0

abbrev pub name_target : List ObjectRecord → ℕ → NameRow → Target
name_target objects i row = record {
  symbol = ids.Name i;
  state = state_of_name objects row;
  threaded = is_threaded_name objects row;
  name = row.name;
  class = row.class;
}

-- each name of the objects has a row
unfoldable pub target_named : Resolution → List ObjectRecord → List ℕ → Option Target
target_named r objects name =
    option_map (name_target objects (place_of_name r name)) (slice_get r.names (place_of_name r name))

abbrev pub target_by : Resolution → List ObjectRecord → Use → ℕ → ObjSymbol → Option Target
target_by r objects u row symbol =
    if is_local symbol then local_at r.dropped u.object u.record_of row symbol.place
    else target_named r objects symbol.name

-- the symbol of a reference; there is none where it lay in a section that isn't kept
unfoldable pub target_of : Resolution → List ObjectRecord → Use → Option Target
target_of r objects u =
    if u.reference.symbol == 0 then Some (no_symbol u.object)
    else option_map_or (target_by r objects u u.reference.symbol) (slice_get u.record_of.symbols u.reference.symbol)
    (Some (no_symbol u.object))
