-- The maps of a text, and their keys.
use Rattle.std.specs.Prelude.{ℕ, List, [], ◌∷◌, Option, Some, None, if◌then◌else◌, option_map, option_and_then, unwrap_or, codes}
use Rattle.ifs_interface.specs.Triple.{same_name}
use Rattle.yaml_nodes.specs.declared.node.Node.{Node}
use Rattle.yaml_nodes.specs.declared.node.Entry.{Entry}
use Rattle.yaml_nodes.specs.Nodes.{items_of, entries_of}
use Rattle.yaml_maps.specs.declared.maps.Wrong.{Wrong}
use Rattle.yaml_maps.specs.declared.maps.Wrong.TheVariants as wrong
use Rattle.yaml_maps.specs.Maps.{WrongKey, value_at, keys_fault}
use Rattle.tbd_core.specs.declared.cause.TbdCause.{TbdCause}
use Rattle.tbd_core.specs.declared.cause.TbdCause.TheVariants.{UnknownKey, RepeatedKey, MissingKey}
use Rattle.tbd_v4_read.specs.declared.keys.GroupKind.{GroupKind}
use Rattle.tbd_v4_read.specs.declared.keys.GroupKind.TheVariants.{Umbrella, Clients, Libraries, Symbols}

-- the keys of a library
unfoldable pub library_keys : List (List ℕ)
library_keys =
    codes "tbd-version" ∷ codes "targets" ∷ codes "uuids" ∷ codes "flags" ∷ codes "install-name"
    ∷ codes "current-version" ∷ codes "compatibility-version" ∷ codes "swift-abi-version"
    ∷ codes "parent-umbrella" ∷ codes "allowable-clients" ∷ codes "reexported-libraries"
    ∷ codes "exports" ∷ codes "reexports" ∷ codes "undefineds" ∷ []

-- those that it needs; the version is looked for by itself
unfoldable pub library_needs : List (List ℕ)
library_needs = codes "targets" ∷ codes "install-name" ∷ []

-- the groups that a key of a library has
abbrev pub group_kind : List ℕ → Option GroupKind
group_kind key =
    if same_name key (codes "parent-umbrella") then Some Umbrella
    else (if same_name key (codes "allowable-clients") then Some Clients
    else (if same_name key (codes "reexported-libraries") then Some Libraries
    else (if same_name key (codes "exports") then Some Symbols
    else (if same_name key (codes "reexports") then Some Symbols
    else (if same_name key (codes "undefineds") then Some Symbols
    else None)))))

-- the keys of a group
unfoldable pub group_keys : GroupKind → List (List ℕ)
group_keys Umbrella = codes "targets" ∷ codes "umbrella" ∷ []
group_keys Clients = codes "targets" ∷ codes "clients" ∷ []
group_keys Libraries = codes "targets" ∷ codes "libraries" ∷ []
group_keys Symbols =
    codes "targets" ∷ codes "symbols" ∷ codes "objc-classes" ∷ codes "objc-eh-types" ∷ codes "objc-ivars"
    ∷ codes "weak-symbols" ∷ codes "thread-local-symbols" ∷ []

-- those that it needs
unfoldable pub group_needs : GroupKind → List (List ℕ)
group_needs Umbrella = codes "targets" ∷ codes "umbrella" ∷ []
group_needs Clients = codes "targets" ∷ []
group_needs Libraries = codes "targets" ∷ []
group_needs Symbols = codes "targets" ∷ []

-- what is wrong with a key, as a cause
abbrev pub key_cause_by : Wrong → List ℕ → TbdCause
key_cause_by wrong.Unknown key = UnknownKey key
key_cause_by wrong.Repeated key = RepeatedKey key
key_cause_by wrong.Missing key = MissingKey key

abbrev pub key_cause : WrongKey → TbdCause
key_cause fault = key_cause_by fault.wrong fault.key

unfoldable pub library_keys_fault : List Entry → Option TbdCause
library_keys_fault entries = option_map key_cause (keys_fault library_keys library_needs entries)

unfoldable pub group_keys_fault : GroupKind → List Entry → Option TbdCause
group_keys_fault kind entries = option_map key_cause (keys_fault (group_keys kind) (group_needs kind) entries)

-- the items of the sequence that a key has; none where it has none
abbrev pub sequence_of : Option Node → List Node
sequence_of value = unwrap_or (option_and_then items_of value) []

unfoldable pub items_at : List ℕ → List Entry → List Node
items_at key entries = sequence_of (value_at key entries)

-- the entries of a map; none where it is no map
abbrev pub map_entries : Node → List Entry
map_entries node = unwrap_or (entries_of node) []
