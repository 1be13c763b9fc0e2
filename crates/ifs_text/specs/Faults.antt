-- What is wrong with the maps of a text: their keys, then their values in text order.
use Rattle.std.specs.Prelude.{ℕ, Bool, false, List, [], ◌∷◌, Option, Some, None, is_some, option_and_then, if◌then◌else◌, codes}
use Rattle.std.specs.List.{list_all}
use Rattle.std.specs.Option.{option_or}
use Rattle.ifs_interface.specs.Triple.{same_name, parts_of_triple}
use Rattle.yaml_nodes.specs.declared.node.Node.{Node}
use Rattle.yaml_nodes.specs.declared.node.Entry.{Entry}
use Rattle.yaml_nodes.specs.Nodes.{text_of, items_of, entries_of}
use Rattle.ifs_text.specs.declared.cause.TextCause.{TextCause}
use Rattle.ifs_text.specs.declared.cause.TextCause.TheVariants.{BadValue, BadVersion}
use Rattle.ifs_text.specs.declared.maps.MapKind.TheVariants.{Root, Target, Symbol}
use Rattle.ifs_text.specs.Maps.{is_among, first_of, key_of, value_of, value_at, keys_fault}
use Rattle.ifs_text.specs.Values.{name_in, machine_in, order_in, width_in, kind_in, size_in, truth_in}

-- the value of a key, where it hasn't its form
abbrev pub bad_unless : Bool → List ℕ → Option TextCause
bad_unless holds key = if holds then None else Some (BadValue key)

-- ---- a symbol

abbrev pub is_symbol_value : List ℕ → Node → Bool
is_symbol_value key value =
    if same_name key (codes "Name") then is_some (name_in value)
    else (if same_name key (codes "Type") then is_some (kind_in value)
    else (if same_name key (codes "Size") then is_some (size_in value)
    else (if same_name key (codes "Warning") then is_some (text_of value)
    else is_some (truth_in value))))

unfoldable pub symbol_value_fault : Entry → Option TextCause
symbol_value_fault e = bad_unless (is_symbol_value (key_of e) (value_of e)) (key_of e)

unfoldable pub symbol_map_fault : List Entry → Option TextCause
symbol_map_fault entries = option_or (keys_fault Symbol entries) (first_of symbol_value_fault entries)

-- an item of the list of symbols, which is a map
abbrev pub symbol_fault_by : List ℕ → Option (List Entry) → Option TextCause
symbol_fault_by key None = Some (BadValue key)
symbol_fault_by key (Some entries) = symbol_map_fault entries

unfoldable pub symbol_fault : List ℕ → Node → Option TextCause
symbol_fault key item = symbol_fault_by key (entries_of item)

abbrev pub symbols_fault_by : List ℕ → Option (List Node) → Option TextCause
symbols_fault_by key None = Some (BadValue key)
symbols_fault_by key (Some items) = first_of (symbol_fault key) items

unfoldable pub symbols_fault : List ℕ → Node → Option TextCause
symbols_fault key value = symbols_fault_by key (items_of value)

-- ---- the needed libraries, a list of names

abbrev pub are_names : Option (List Node) → Bool
are_names None = false
are_names (Some items) = list_all (λ item. is_some (name_in item)) items

-- ---- the target, a known triple or a map

abbrev pub is_elf : Option (List ℕ) → Bool
is_elf None = false
is_elf (Some text) = same_name text (codes "ELF")

abbrev pub is_part_value : List ℕ → Node → Bool
is_part_value key value =
    if same_name key (codes "ObjectFormat") then is_elf (text_of value)
    else (if same_name key (codes "Arch") then is_some (machine_in value)
    else (if same_name key (codes "Endianness") then is_some (order_in value)
    else is_some (width_in value)))

unfoldable pub part_fault : Entry → Option TextCause
part_fault e = bad_unless (is_part_value (key_of e) (value_of e)) (key_of e)

unfoldable pub parts_fault : List Entry → Option TextCause
parts_fault entries = option_or (keys_fault Target entries) (first_of part_fault entries)

abbrev pub target_fault_by : List ℕ → Option (List ℕ) → Option (List Entry) → Option TextCause
target_fault_by key (Some triple) entries = bad_unless (is_some (parts_of_triple triple)) key
target_fault_by key None (Some entries) = parts_fault entries
target_fault_by key None None = Some (BadValue key)

unfoldable pub target_fault : List ℕ → Node → Option TextCause
target_fault key value = target_fault_by key (text_of value) (entries_of value)

-- ---- the root

abbrev pub is_version : Option (List ℕ) → Bool
is_version None = false
is_version (Some text) = is_among text (codes "3.0" ∷ codes "3" ∷ [])

abbrev pub has_version : List Entry → Bool
has_version entries = is_version (option_and_then text_of (value_at (codes "IfsVersion") entries))

unfoldable pub version_fault : List Entry → Option TextCause
version_fault entries = if has_version entries then None else Some BadVersion

abbrev pub root_value_fault_by : List ℕ → Node → Option TextCause
root_value_fault_by key value =
    if same_name key (codes "SoName") then bad_unless (is_some (name_in value)) key
    else (if same_name key (codes "Target") then target_fault key value
    else (if same_name key (codes "NeededLibs") then bad_unless (are_names (items_of value)) key
    else (if same_name key (codes "Symbols") then symbols_fault key value
    else None)))

unfoldable pub root_value_fault : Entry → Option TextCause
root_value_fault e = root_value_fault_by (key_of e) (value_of e)

-- its keys, the version, and then the other values
unfoldable pub root_fault : List Entry → Option TextCause
root_fault entries = option_or (keys_fault Root entries) (option_or (version_fault entries) (first_of root_value_fault entries))
