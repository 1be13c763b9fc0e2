-- The text of version 4 that a library is.
use Rattle.std.specs.Prelude.{ℕ, Bool, true, false, ◌==◌, List, [], ◌++◌, map, length, Option, Some, None, Result, Ok, Err, if◌then◌else◌, codes, decimal}
use Rattle.std.specs.List.{flat_map}
use Rattle.tbd_core.specs.declared.version.Version.{Version}
use Rattle.tbd_core.specs.declared.symbol.Section.{Section}
use Rattle.tbd_core.specs.declared.symbol.Section.TheVariants.{Exported, Reexported, Undefined}
use Rattle.tbd_core.specs.declared.dylib.Named.{Named}
use Rattle.tbd_core.specs.declared.dylib.TbdTarget.{TbdTarget}
use Rattle.tbd_core.specs.declared.dylib.DylibParts.{DylibParts}
use Rattle.tbd_core.specs.declared.dylib.Tbd.{Tbd}
use Rattle.tbd_core.specs.declared.cause.PrintCause.{PrintCause}
use Rattle.tbd_core.specs.declared.cause.PrintCause.TheVariants.{NoPlace}
use Rattle.tbd_core.specs.Version.{is_first, printed_version}
use Rattle.tbd_v4.specs.declared.listed.NameList.{NameList}
use Rattle.tbd_v4.specs.declared.listed.NameList.TheVariants.{Umbrellas, Clients, Libraries}
use Rattle.tbd_v4.specs.Places.{without_place}
use Rattle.tbd_v4.specs.Listed.{listed_names, listed_symbols}
use Rattle.tbd_v4.specs.Lines.{line, list_line, scalar_line, groups_of_key}

-- ---- single values

abbrev pub flags_line : List Named → List ℕ
flags_line flags =
    if length flags == 0 then [] else list_line (codes "flags:           [ ") (map (λ flag. flag.name) flags)

-- a version, unless it is 1.0.0
abbrev pub version_line : List ℕ → Version → List ℕ
version_line start version = if is_first version then [] else line (start ++ printed_version version)

unfoldable pub number_line : List ℕ → ℕ → List ℕ
number_line start number = line (start ++ decimal number)

abbrev pub swift_line : Option ℕ → List ℕ
swift_line None = []
swift_line (Some abi) = number_line (codes "swift-abi-version: ") abi

-- targets, flags and the install name
unfoldable pub first_lines : DylibParts → List ℕ
first_lines parts =
    list_line (codes "targets:         [ ") (map (λ target. target.name) parts.targets)
    ++ flags_line parts.flags
    ++ scalar_line (codes "install-name:    ") parts.install_name

unfoldable pub version_lines : DylibParts → List ℕ
version_lines parts =
    version_line (codes "current-version: ") parts.current
    ++ version_line (codes "compatibility-version: ") parts.compatible
    ++ swift_line parts.swift_abi

-- ---- groups

-- names in groups
abbrev pub groups_of_names : List ℕ → Bool → NameList → List TbdTarget → List Named → List ℕ
groups_of_names key alone list targets names = groups_of_key key alone targets (listed_names list names)

-- the symbols of a section in groups
abbrev pub groups_of_section : List ℕ → Section → DylibParts → List ℕ
groups_of_section key section parts =
    groups_of_key key false parts.targets (listed_symbols section parts.symbols)

abbrev pub umbrella_groups : DylibParts → List ℕ
umbrella_groups parts =
    groups_of_names (codes "parent-umbrella:") true Umbrellas parts.targets parts.umbrellas

abbrev pub client_groups : DylibParts → List ℕ
client_groups parts =
    groups_of_names (codes "allowable-clients:") false Clients parts.targets parts.clients

abbrev pub reexported_groups : DylibParts → List ℕ
reexported_groups parts =
    groups_of_names (codes "reexported-libraries:") false Libraries parts.targets parts.reexported

unfoldable pub name_groups : DylibParts → List ℕ
name_groups parts = umbrella_groups parts ++ client_groups parts ++ reexported_groups parts

unfoldable pub symbol_groups : DylibParts → List ℕ
symbol_groups parts =
    groups_of_section (codes "exports:") Exported parts
    ++ groups_of_section (codes "reexports:") Reexported parts
    ++ groups_of_section (codes "undefineds:") Undefined parts

-- ---- the whole

-- the marker, and the version that the text has
unfoldable pub start_lines : List ℕ
start_lines = line (codes "--- !tapi-tbd") ++ line (codes "tbd-version:     4")

-- the document of a library
unfoldable pub printed_library : DylibParts → List ℕ
printed_library parts =
    start_lines
    ++ first_lines parts
    ++ version_lines parts
    ++ name_groups parts
    ++ symbol_groups parts

-- the library, those that are part of it, and the end
unfoldable pub printed_libraries : Tbd → List ℕ
printed_libraries tbd = printed_library tbd.main ++ flat_map printed_library tbd.inlined ++ line (codes "...")

abbrev pub printed_by : Option (List ℕ) → Tbd → Result (List ℕ) PrintCause
printed_by None tbd = Ok (printed_libraries tbd)
printed_by (Some field) tbd = Err (NoPlace field)

-- the text, or the first that has no place in it
abbrev pub printed_tbd : Tbd → Result (List ℕ) PrintCause
printed_tbd tbd = printed_by (without_place tbd) tbd
