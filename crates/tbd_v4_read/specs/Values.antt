-- The values of a text: which forms they have, and what they stand for.
use Rattle.std.specs.Prelude.{ℕ, ◌^◌, Bool, true, false, not, ◌&&◌, List, [], ◌∷◌, Option, Some, None, is_some, option_and_then, if◌then◌else◌, codes}
use Rattle.std.specs.List.{list_any, list_all}
use Rattle.ifs_interface.specs.Interface.{is_proper_name}
use Rattle.ifs_interface.specs.Triple.{same_name}
use Rattle.yaml_nodes.specs.declared.node.Node.{Node}
use Rattle.yaml_nodes.specs.Nodes.{text_of, items_of}
use Rattle.tbd_core.specs.declared.version.Version.{Version}
use Rattle.tbd_core.specs.Version.{version_named, number_below}
use Rattle.tbd_core.specs.Normal.{is_some_list}

-- a name, which has a byte and no NUL
abbrev pub proper : List ℕ → Option (List ℕ)
proper name = if is_proper_name name then Some name else None

unfoldable pub name_in : Node → Option (List ℕ)
name_in node = option_and_then proper (text_of node)

-- a version, and a number of 8 bits
unfoldable pub version_in : Node → Option Version
version_in node = option_and_then version_named (text_of node)

unfoldable pub byte_in : Node → Option ℕ
byte_in node = option_and_then (number_below (2 ^ 8)) (text_of node)

-- a sequence of names
unfoldable pub all_names : List Node → Bool
all_names items = list_all (λ item. is_some (name_in item)) items

abbrev pub holds_in : (List Node → Bool) → Option (List Node) → Bool
holds_in test None = false
holds_in test (Some items) = test items

unfoldable pub are_names : Node → Bool
are_names node = holds_in all_names (items_of node)

-- the targets of a group: one name or more
abbrev pub some_names : List Node → Bool
some_names items = is_some_list items && all_names items

unfoldable pub are_group_targets : Node → Bool
are_group_targets node = holds_in some_names (items_of node)

-- the node is the name
abbrev pub is_text : List ℕ → Option (List ℕ) → Bool
is_text name None = false
is_text name (Some text) = same_name text name

-- the name stands among nodes
unfoldable pub stands_in : List ℕ → List Node → Bool
stands_in name items = list_any (λ item. is_text name (text_of item)) items

abbrev pub stands_again : Option (List ℕ) → List Node → Bool
stands_again None items = false
stands_again (Some name) items = stands_in name items

-- no name stands twice
abbrev pub all_differ : List Node → Bool
all_differ [] = true
all_differ (item ∷ items) = not (stands_again (text_of item) items) && all_differ items

-- the targets of a library: one name or more, each once
abbrev pub different_names : List Node → Bool
different_names items = some_names items && all_differ items

unfoldable pub are_library_targets : Node → Bool
are_library_targets node = holds_in different_names (items_of node)

-- the version of the format
abbrev pub is_four : Option Node → Bool
is_four value = is_text (codes "4") (option_and_then text_of value)
