-- What a link asks of a library, however it was read: for which machine it is, its soname, the libraries that
-- it needs, and of each name whether the library defines it, and as what, or wants it from elsewhere.
use Rattle.std.specs.Prelude.{◌≡◌, ℕ, ◌==◌, if◌then◌else◌, Bool, not, List, [], ◌∷◌, map, Option, Some, None, is_some, is_none, option_map, option_and_then}
use Rattle.std.specs.List.{find, filter_map, list_any}
use Rattle.ifs_interface.specs.declared.fact.Fact.{Fact}
use Rattle.ifs_interface.specs.declared.fact.Fact.TheVariants as fact
use Rattle.ifs_interface.specs.declared.row.DynRow.{DynRow}
use Rattle.ifs_interface.specs.declared.symbol.Kind.{Kind}
use Rattle.ifs_interface.specs.declared.symbol.Kind.TheVariants.{NoType, Func, Object, Tls, Unknown}
use Rattle.ifs_interface.specs.declared.symbol.Symbol.{Symbol}
use Rattle.ifs_interface.specs.declared.target.MachineFact.{MachineFact}
use Rattle.ifs_interface.specs.Triple.{same_name}
use Rattle.ifs_interface.specs.Parts.{parts_of}
use Rattle.ifs_interface.specs.Library.{LibraryRecord}
use Rattle.ifs_interface.specs.Interface.{InterfaceRecord}
use Rattle.ifs_interface.specs.Extracted.{is_defined, is_weak, rows_named, visible_names}

-- wanted has the wanted names in byte order, each once, and whether it is wanted strongly; fact_of gives what a
-- defined name is, and None for any other
pub record Facts : Type 0 where
  pub machine : MachineFact
  pub soname : Option (List ℕ)
  pub needed : List (List ℕ)
  pub wanted : List (List ℕ × Bool)
  pub fact_of : List ℕ → Option Fact

abbrev pub wanted_names : Facts → List (List ℕ)
wanted_names facts = map (λ wanted. wanted.0) facts.wanted

-- whether a name is wanted strongly, and None where it isn't wanted
abbrev pub wanted_of : Facts → List ℕ → Option Bool
wanted_of facts name = option_map (λ wanted. wanted.1) (find (λ wanted. same_name wanted.0 name) facts.wanted)

-- ---- of a library's visible rows

-- STT_OBJECT, STT_FUNC and STT_TLS; any other type says nothing
abbrev pub fact_of_type : ℕ → Fact
fact_of_type type_number =
    if type_number == 1 then fact.Object
    else (if type_number == 2 then fact.Func
    else (if type_number == 6 then fact.Tls
    else fact.NoType))

-- a defined name is what its first row that defines it is
unfoldable pub defined_in : List DynRow → List ℕ → Option Fact
defined_in rows name = option_map (λ row. fact_of_type row.kind) (find is_defined (rows_named name rows))

abbrev pub is_strong : DynRow → Bool
is_strong row = not (is_weak row)

-- a name of visible rows is wanted where none of them defines it, strongly where one of them isn't weak
unfoldable pub wanted_name : List DynRow → List ℕ → Option (List ℕ × Bool)
wanted_name rows name =
    if is_none (find is_defined (rows_named name rows)) then Some (name, list_any is_strong (rows_named name rows)) else None

-- the place of a row among the wanted names: nothing where its name is defined
unfoldable pub wanted_row : List DynRow → DynRow → Option (List ℕ × Bool)
wanted_row rows row = if is_some (defined_in rows row.name) then None else Some (row.name, is_strong row)

abbrev pub facts_of_library : LibraryRecord → Facts
facts_of_library library = record {
  machine = record { machine = Some library.machine; order = Some library.order; width = Some library.width };
  soname = library.soname;
  needed = library.needed;
  wanted = filter_map (wanted_name library.rows) (visible_names library.rows);
  fact_of = defined_in library.rows;
}

-- ---- of an interface's symbols

-- the symbol of a name
abbrev pub symbol_in : List Symbol → List ℕ → Option Symbol
symbol_in symbols name = find (λ symbol. same_name symbol.name name) symbols

-- a symbol of another type says nothing
abbrev pub fact_of_kind : Kind → Fact
fact_of_kind NoType = fact.NoType
fact_of_kind Func = fact.Func
fact_of_kind Object = fact.Object
fact_of_kind Tls = fact.Tls
fact_of_kind Unknown = fact.NoType

abbrev pub fact_of_symbol : Symbol → Option Fact
fact_of_symbol symbol = if symbol.undefined then None else Some (fact_of_kind symbol.kind)

unfoldable pub defined_by : List Symbol → List ℕ → Option Fact
defined_by symbols name = option_and_then fact_of_symbol (symbol_in symbols name)

-- an undefined symbol is wanted, strongly where it isn't weak
abbrev pub wanted_place : Symbol → Option (List ℕ × Bool)
wanted_place symbol = if symbol.undefined then Some (symbol.name, not symbol.weak) else None

-- what the target doesn't say stays absent; an interface has its symbols in byte order of their names
abbrev pub facts_of_interface : InterfaceRecord → Facts
facts_of_interface interface = record {
  machine = parts_of interface.target;
  soname = interface.soname;
  needed = interface.needed;
  wanted = filter_map wanted_place interface.symbols;
  fact_of = defined_by interface.symbols;
}

-- ---- wanted names one by one

-- how strongly a place wants a name, if it does: a place has a name and whether it is wanted strongly, or nothing
abbrev pub strength_at : List ℕ → Option (List ℕ × Bool) → Option Bool
strength_at name None = None
strength_at name (Some wanted) = if same_name wanted.0 name then Some wanted.1 else None

-- wanted where it has a strength, and strongly where one of them is strong
abbrev pub together : List Bool → Option Bool
together [] = None
together (strong ∷ others) = Some (list_any (λ s. s) (strong ∷ others))

-- what places say of a name
unfoldable pub wanted_among : List (Option (List ℕ × Bool)) → List ℕ → Option Bool
wanted_among places name = together (filter_map (strength_at name) places)

-- the wanted names of the facts stand at these places, each at one at least, in any order; a name that is
-- wanted strongly is strong at one of its places, and any other at none
abbrev pub AreWanted : Facts → List (Option (List ℕ × Bool)) → Type 0
AreWanted facts places = (name : List ℕ) → wanted_among places name ≡ wanted_of facts name
