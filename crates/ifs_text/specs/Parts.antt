-- What the maps of a text say, where nothing is wrong with them: a key that is missing says nothing.
use Rattle.std.specs.Prelude.{ℕ, Bool, false, List, [], Option, Some, None, unwrap_or, option_map, option_and_then, if◌then◌else◌, is_some, codes}
use Rattle.std.specs.List.{filter_map}
use Rattle.ifs_bytes.specs.declared.form.Order.{Order}
use Rattle.ifs_bytes.specs.declared.form.Width.{Width}
use Rattle.ifs_interface.specs.declared.symbol.Kind.{Kind}
use Rattle.ifs_interface.specs.declared.symbol.Kind.TheVariants.{NoType}
use Rattle.ifs_interface.specs.declared.symbol.Symbol.{Symbol}
use Rattle.ifs_interface.specs.declared.target.Target.{Target}
use Rattle.ifs_interface.specs.Triple.{parts_of_triple}
use Rattle.yaml_nodes.specs.declared.node.Node.{Node}
use Rattle.yaml_nodes.specs.declared.node.Entry.{Entry}
use Rattle.yaml_nodes.specs.Nodes.{text_of, items_of, entries_of}
use Rattle.ifs_text.specs.Maps.{value_at}
use Rattle.ifs_text.specs.Values.{name_in, machine_in, order_in, width_in, kind_in, size_in, truth_in}

-- what the value of a key stands for
abbrev pub said : {X : Type 0} → (Node → Option X) → List ℕ → List Entry → Option X
said meaning key entries = option_and_then meaning (value_at key entries)

-- ---- a symbol

abbrev pub said_name : List Entry → Option (List ℕ)
said_name entries = said name_in (codes "Name") entries

abbrev pub said_kind : List Entry → Kind
said_kind entries = unwrap_or (said kind_in (codes "Type") entries) NoType

abbrev pub said_size : List Entry → Option ℕ
said_size entries = said size_in (codes "Size") entries

abbrev pub said_warning : List Entry → Option (List ℕ)
said_warning entries = said text_of (codes "Warning") entries

abbrev pub is_said : List ℕ → List Entry → Bool
is_said key entries = unwrap_or (said truth_in key entries) false

abbrev pub symbol_of : List Entry → List ℕ → Symbol
symbol_of entries name = record {
  name = name;
  kind = said_kind entries;
  size = said_size entries;
  weak = is_said (codes "Weak") entries;
  undefined = is_said (codes "Undefined") entries;
  warning = said_warning entries;
}

-- the symbol of a map; each that is right has a name
unfoldable pub symbol_in_map : List Entry → Option Symbol
symbol_in_map entries = option_map (symbol_of entries) (said_name entries)

unfoldable pub symbol_in : Node → Option Symbol
symbol_in item = option_and_then symbol_in_map (entries_of item)

-- ---- the target

abbrev pub nothing_known : Target
nothing_known = record { triple = None; machine = None; order = None; width = None }

abbrev pub target_of_triple : List ℕ → Target
target_of_triple triple = if is_some (parts_of_triple triple) then record { triple = Some triple; machine = None; order = None; width = None } else nothing_known

abbrev pub said_machine : List Entry → Option ℕ
said_machine entries = said machine_in (codes "Arch") entries

abbrev pub said_order : List Entry → Option Order
said_order entries = said order_in (codes "Endianness") entries

abbrev pub said_width : List Entry → Option Width
said_width entries = said width_in (codes "BitWidth") entries

abbrev pub target_of_map : List Entry → Target
target_of_map entries = record { triple = None; machine = said_machine entries; order = said_order entries; width = said_width entries }

abbrev pub target_by : Option (List ℕ) → Option (List Entry) → Target
target_by (Some triple) entries = target_of_triple triple
target_by None (Some entries) = target_of_map entries
target_by None None = nothing_known

unfoldable pub target_in : Node → Target
target_in value = target_by (text_of value) (entries_of value)

-- ---- the whole

-- the items of the value of a key
unfoldable pub listed_at : List ℕ → List Entry → List Node
listed_at key entries = unwrap_or (said items_of key entries) []

abbrev pub soname_of : List Entry → Option (List ℕ)
soname_of entries = said name_in (codes "SoName") entries

abbrev pub target_of : List Entry → Target
target_of entries = unwrap_or (option_map target_in (value_at (codes "Target") entries)) nothing_known

abbrev pub needed_of : List Entry → List (List ℕ)
needed_of entries = filter_map name_in (listed_at (codes "NeededLibs") entries)

-- the symbols in text order
abbrev pub symbols_of : List Entry → List Symbol
symbols_of entries = filter_map symbol_in (listed_at (codes "Symbols") entries)
