-- What a library says, where nothing is wrong with it: a key that is missing says nothing.
use Rattle.std.specs.Prelude.{ℕ, List, [], ◌++◌, map, length, Option, None, unwrap_or, option_map, option_and_then, codes}
use Rattle.std.specs.List.{filter_map, flat_map}
use Rattle.std.specs.Option.{option_to_list}
use Rattle.ifs_bytes.specs.Places.{places}
use Rattle.yaml_nodes.specs.declared.node.Node.{Node}
use Rattle.yaml_nodes.specs.declared.node.Entry.{Entry}
use Rattle.yaml_maps.specs.Maps.{value_at}
use Rattle.tbd_core.specs.declared.version.Version.{Version}
use Rattle.tbd_core.specs.declared.symbol.Section.{Section}
use Rattle.tbd_core.specs.declared.symbol.Section.TheVariants.{Exported, Reexported, Undefined}
use Rattle.tbd_core.specs.declared.symbol.SymbolKind.{SymbolKind}
use Rattle.tbd_core.specs.declared.symbol.SymbolKind.TheVariants as kinds
use Rattle.tbd_core.specs.declared.symbol.Part.TheVariants.{Any}
use Rattle.tbd_core.specs.declared.symbol.TbdSymbol.{TbdSymbol}
use Rattle.tbd_core.specs.declared.dylib.TbdTarget.{TbdTarget}
use Rattle.tbd_core.specs.declared.dylib.Named.{Named}
use Rattle.tbd_core.specs.declared.dylib.DylibParts.{DylibParts}
use Rattle.tbd_core.specs.Version.{first_version}
use Rattle.tbd_core.specs.Places.{place_of}
use Rattle.tbd_core.specs.Union.{united}
use Rattle.tbd_v4_read.specs.declared.keys.GroupKind.{GroupKind}
use Rattle.tbd_v4_read.specs.declared.keys.GroupKind.TheVariants.{Umbrella, Clients, Libraries, Symbols}
use Rattle.tbd_v4_read.specs.Keys.{items_at, map_entries}
use Rattle.tbd_v4_read.specs.Values.{name_in, version_in, byte_in}

-- ---- targets

abbrev pub target : List ℕ → TbdTarget
target name = record { name = name; min = None }

abbrev pub target_in : Node → Option TbdTarget
target_in item = option_map target (name_in item)

unfoldable pub targets_of : List Entry → List TbdTarget
targets_of entries = filter_map target_in (items_at (codes "targets") entries)

-- the positions of the targets of a group
abbrev pub place_in : List TbdTarget → Node → Option ℕ
place_in targets item = option_and_then (place_of targets) (name_in item)

unfoldable pub places_of : List TbdTarget → List Entry → List ℕ
places_of targets group = filter_map (place_in targets) (items_at (codes "targets") group)

-- ---- names

-- a name that is said for targets
abbrev pub symbol : Section → SymbolKind → List ℕ → List ℕ → TbdSymbol
symbol section kind targets name = record {
  section = section;
  kind = kind;
  segment = Any;
  name = name;
  targets = targets;
}

unfoldable pub symbol_in : Section → SymbolKind → List ℕ → Node → Option TbdSymbol
symbol_in section kind targets item = option_map (symbol section kind targets) (name_in item)

-- the names of a list
unfoldable pub listed : Section → SymbolKind → List ℕ → List ℕ → List Entry → List TbdSymbol
listed section kind targets key group = filter_map (symbol_in section kind targets) (items_at key group)

-- the name of an umbrella
unfoldable pub umbrella_of : Section → List ℕ → List Entry → List TbdSymbol
umbrella_of section targets group =
    option_to_list
    (option_and_then (symbol_in section kinds.Global targets) (value_at (codes "umbrella") group))

-- the symbols of Objective-C
unfoldable pub objc_symbols : Section → List ℕ → List Entry → List TbdSymbol
objc_symbols section targets group =
    listed section kinds.ObjcClass targets (codes "objc-classes") group
    ++ listed section kinds.ObjcEhType targets (codes "objc-eh-types") group
    ++ listed section kinds.ObjcIvar targets (codes "objc-ivars") group

-- the symbols of each kind
unfoldable pub symbols_of : Section → List ℕ → List Entry → List TbdSymbol
symbols_of section targets group =
    listed section kinds.Global targets (codes "symbols") group
    ++ objc_symbols section targets group
    ++ listed section kinds.Weak targets (codes "weak-symbols") group
    ++ listed section kinds.ThreadLocal targets (codes "thread-local-symbols") group

-- the names of a group, which are said for these targets; those of a list without kinds are taken as global
abbrev pub names_of_group : GroupKind → Section → List ℕ → List Entry → List TbdSymbol
names_of_group Umbrella section targets group = umbrella_of section targets group
names_of_group Clients section targets group = listed section kinds.Global targets (codes "clients") group
names_of_group Libraries section targets group = listed section kinds.Global targets (codes "libraries") group
names_of_group Symbols section targets group = symbols_of section targets group

unfoldable pub names_in_group : GroupKind → Section → List TbdTarget → Node → List TbdSymbol
names_in_group kind section targets group =
    names_of_group kind section (places_of targets (map_entries group)) (map_entries group)

-- the names of all groups of a key
unfoldable pub names_at : GroupKind → Section → List ℕ → List TbdTarget → List Entry → List TbdSymbol
names_at kind section key targets entries =
    flat_map (names_in_group kind section targets) (items_at key entries)

abbrev pub named : TbdSymbol → Named
named symbol = record { name = symbol.name; targets = symbol.targets }

-- names of a list without kinds: each once, with the targets of all groups that list it
unfoldable pub names_once : List TbdSymbol → List Named
names_once names = map named (united names)

-- flags are said for all targets
unfoldable pub flags_of : List TbdTarget → List Entry → List Named
flags_of targets entries =
    names_once (listed Exported kinds.Global (places 0 (length targets)) (codes "flags") entries)

unfoldable pub umbrellas_of : List TbdTarget → List Entry → List Named
umbrellas_of targets entries =
    names_once (names_at Umbrella Exported (codes "parent-umbrella") targets entries)

unfoldable pub clients_of : List TbdTarget → List Entry → List Named
clients_of targets entries =
    names_once (names_at Clients Exported (codes "allowable-clients") targets entries)

unfoldable pub reexported_of : List TbdTarget → List Entry → List Named
reexported_of targets entries =
    names_once (names_at Libraries Exported (codes "reexported-libraries") targets entries)

-- the symbols of all sections
unfoldable pub sectioned : List TbdTarget → List Entry → List TbdSymbol
sectioned targets entries =
    united
    (names_at Symbols Exported (codes "exports") targets entries
    ++ names_at Symbols Reexported (codes "reexports") targets entries
    ++ names_at Symbols Undefined (codes "undefineds") targets entries)

-- ---- the whole

unfoldable pub install_name : List Entry → List ℕ
install_name entries = unwrap_or (option_and_then name_in (value_at (codes "install-name") entries)) []

unfoldable pub version_at : List ℕ → List Entry → Version
version_at key entries = unwrap_or (option_and_then version_in (value_at key entries)) first_version

unfoldable pub swift_abi : List Entry → Option ℕ
swift_abi entries = option_and_then byte_in (value_at (codes "swift-abi-version") entries)

-- the parts of a library with these targets
unfoldable pub parts_with : List TbdTarget → List Entry → DylibParts
parts_with targets entries = record {
  targets = targets;
  flags = flags_of targets entries;
  install_name = install_name entries;
  current = version_at (codes "current-version") entries;
  compatible = version_at (codes "compatibility-version") entries;
  swift_abi = swift_abi entries;
  umbrellas = umbrellas_of targets entries;
  clients = clients_of targets entries;
  reexported = reexported_of targets entries;
  rpaths = [];
  symbols = sectioned targets entries;
}

abbrev pub parts_of : List Entry → DylibParts
parts_of entries = parts_with (targets_of entries) entries
