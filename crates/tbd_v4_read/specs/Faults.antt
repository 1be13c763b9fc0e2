-- The first thing that is wrong with a library: its keys, the version, the values in text order, and then a
-- target of a group that the library hasn't.
use Rattle.std.specs.Prelude.{ℕ, Bool, true, List, Option, Some, None, is_some, if◌then◌else◌, codes}
use Rattle.std.specs.Option.{option_or}
use Rattle.ifs_interface.specs.Triple.{same_name}
use Rattle.yaml_nodes.specs.declared.node.Node.{Node}
use Rattle.yaml_nodes.specs.declared.node.Entry.{Entry}
use Rattle.yaml_nodes.specs.Nodes.{text_of, items_of, entries_of, key_of, value_of}
use Rattle.yaml_maps.specs.Maps.{first_of, value_at}
use Rattle.tbd_core.specs.declared.cause.TbdCause.{TbdCause}
use Rattle.tbd_core.specs.declared.cause.TbdCause.TheVariants.{BadValue, BadVersion, UnknownTarget}
use Rattle.tbd_core.specs.Fault.{bad_unless}
use Rattle.tbd_v4_read.specs.declared.keys.GroupKind.{GroupKind}
use Rattle.tbd_v4_read.specs.Keys.{group_kind, library_keys_fault, group_keys_fault, items_at, map_entries, sequence_of}
use Rattle.tbd_v4_read.specs.Values.{name_in, version_in, byte_in, are_names, are_group_targets, are_library_targets, stands_in, is_four}

-- ---- a group

-- the value of a key of a group has its form
abbrev pub is_group_value : List ℕ → Node → Bool
is_group_value key value =
    if same_name key (codes "targets") then are_group_targets value
    else (if same_name key (codes "umbrella") then is_some (name_in value)
    else are_names value)

unfoldable pub group_value_fault : Entry → Option TbdCause
group_value_fault e = bad_unless (is_group_value (key_of e) (value_of e)) (key_of e)

-- its keys, and then its values in text order
unfoldable pub group_map_fault : GroupKind → List Entry → Option TbdCause
group_map_fault kind entries = option_or (group_keys_fault kind entries) (first_of group_value_fault entries)

-- an item of the sequence of groups that a key has, which is a map
abbrev pub group_fault_by : List ℕ → GroupKind → Option (List Entry) → Option TbdCause
group_fault_by key kind None = Some (BadValue key)
group_fault_by key kind (Some entries) = group_map_fault kind entries

unfoldable pub group_fault : List ℕ → GroupKind → Node → Option TbdCause
group_fault key kind item = group_fault_by key kind (entries_of item)

abbrev pub groups_fault_by : List ℕ → GroupKind → Option (List Node) → Option TbdCause
groups_fault_by key kind None = Some (BadValue key)
groups_fault_by key kind (Some items) = first_of (group_fault key kind) items

unfoldable pub groups_fault : List ℕ → GroupKind → Node → Option TbdCause
groups_fault key kind value = groups_fault_by key kind (items_of value)

-- ---- a library

-- the value of a key has the form of its number; what `tbd-version` and `uuids` have isn't looked at here
unfoldable pub is_number_value : List ℕ → Node → Bool
is_number_value key value =
    if same_name key (codes "current-version") then is_some (version_in value)
    else (if same_name key (codes "compatibility-version") then is_some (version_in value)
    else (if same_name key (codes "swift-abi-version") then is_some (byte_in value)
    else true))

-- the value of a key without groups has its form
unfoldable pub is_single_value : List ℕ → Node → Bool
is_single_value key value =
    if same_name key (codes "targets") then are_library_targets value
    else (if same_name key (codes "flags") then are_names value
    else (if same_name key (codes "install-name") then is_some (name_in value)
    else is_number_value key value))

abbrev pub value_fault_by : List ℕ → Node → Option GroupKind → Option TbdCause
value_fault_by key value None = bad_unless (is_single_value key value) key
value_fault_by key value (Some kind) = groups_fault key kind value

unfoldable pub value_fault : Entry → Option TbdCause
value_fault e = value_fault_by (key_of e) (value_of e) (group_kind (key_of e))

unfoldable pub version_fault : List Entry → Option TbdCause
version_fault entries = if is_four (value_at (codes "tbd-version") entries) then None else Some BadVersion

-- ---- targets that the library hasn't

abbrev pub unless_known : List Node → List ℕ → Option TbdCause
unless_known targets name = if stands_in name targets then None else Some (UnknownTarget name)

-- an item of the targets of a group, among those of the library
abbrev pub unknown_by : List Node → Option (List ℕ) → Option TbdCause
unknown_by targets None = None
unknown_by targets (Some name) = unless_known targets name

unfoldable pub unknown_in : List Node → Node → Option TbdCause
unknown_in targets item = unknown_by targets (text_of item)

unfoldable pub unknown_in_group : List Node → Node → Option TbdCause
unknown_in_group targets group =
    first_of (unknown_in targets) (items_at (codes "targets") (map_entries group))

abbrev pub unknown_at_by : List Node → Node → Option GroupKind → Option TbdCause
unknown_at_by targets value None = None
unknown_at_by targets value (Some kind) = first_of (unknown_in_group targets) (sequence_of (Some value))

-- the first in the groups of a key
unfoldable pub unknown_at : List Node → Entry → Option TbdCause
unknown_at targets e = unknown_at_by targets (value_of e) (group_kind (key_of e))

unfoldable pub unknown_target : List Entry → Option TbdCause
unknown_target entries = first_of (unknown_at (items_at (codes "targets") entries)) entries

-- ---- the whole

unfoldable pub values_fault : List Entry → Option TbdCause
values_fault entries = option_or (first_of value_fault entries) (unknown_target entries)

unfoldable pub library_fault : List Entry → Option TbdCause
library_fault entries =
    option_or (library_keys_fault entries) (option_or (version_fault entries) (values_fault entries))
