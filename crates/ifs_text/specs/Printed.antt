-- The text of an interface, line by line.
use Rattle.std.specs.Prelude.{ℕ, ◌==◌, Bool, ◌||◌, List, [], ◌∷◌, ◌++◌, length, if◌then◌else◌, Option, Some, None, is_some, codes, decimal}
use Rattle.std.specs.List.{flat_map}
use Rattle.ifs_bytes.specs.declared.form.Order.{Order}
use Rattle.ifs_bytes.specs.declared.form.Order.TheVariants.{Little, Big}
use Rattle.ifs_bytes.specs.declared.form.Width.{Width}
use Rattle.ifs_bytes.specs.declared.form.Width.TheVariants.{W32, W64}
use Rattle.ifs_interface.specs.declared.symbol.Kind.{Kind}
use Rattle.ifs_interface.specs.declared.symbol.Kind.TheVariants.{NoType, Func, Object, Tls, Unknown}
use Rattle.ifs_interface.specs.declared.symbol.Symbol.{Symbol}
use Rattle.ifs_interface.specs.declared.target.Target.{Target}
use Rattle.ifs_interface.specs.Arch.{arch_name}
use Rattle.ifs_interface.specs.Interface.{InterfaceRecord}
use Rattle.yaml_profile.specs.Printed.{printed_scalar}

-- bytes that a line feed ends
abbrev pub line : List ℕ → List ℕ
line bytes = bytes ++ 10 ∷ []

-- a line of fixed bytes and a scalar
unfoldable pub scalar_line : List ℕ → List ℕ → List ℕ
scalar_line start scalar = line (start ++ printed_scalar scalar)

abbrev pub soname_line : Option (List ℕ) → List ℕ
soname_line None = []
soname_line (Some name) = scalar_line (codes "SoName:          ") name

-- ---- the target

abbrev pub arch_entry : Option ℕ → List ℕ
arch_entry None = []
arch_entry (Some machine) = codes ", Arch: " ++ arch_name machine

abbrev pub order_entry : Option Order → List ℕ
order_entry None = []
order_entry (Some Little) = codes ", Endianness: little"
order_entry (Some Big) = codes ", Endianness: big"

abbrev pub width_entry : Option Width → List ℕ
width_entry None = []
width_entry (Some W32) = codes ", BitWidth: 32"
width_entry (Some W64) = codes ", BitWidth: 64"

-- the machine, the order and the width, as far as they are known
unfoldable pub part_entries : Target → List ℕ
part_entries target = arch_entry target.machine ++ order_entry target.order ++ width_entry target.width

unfoldable pub parts_line : Target → List ℕ
parts_line target = line (codes "Target:          { ObjectFormat: ELF" ++ part_entries target ++ codes " }")

abbrev pub has_part : Target → Bool
has_part target = is_some target.machine || is_some target.order || is_some target.width

-- a target is its triple, else its parts; one of which nothing is known has no line
abbrev pub target_line_by : Option (List ℕ) → Target → List ℕ
target_line_by (Some triple) target = scalar_line (codes "Target:          ") triple
target_line_by None target = if has_part target then parts_line target else []

abbrev pub target_line : Target → List ℕ
target_line target = target_line_by target.triple target

-- ---- the needed libraries

abbrev pub needed_line : List ℕ → List ℕ
needed_line name = scalar_line (codes "  - ") name

abbrev pub needed_lines : List (List ℕ) → List ℕ
needed_lines names = if length names == 0 then [] else line (codes "NeededLibs:") ++ flat_map needed_line names

-- ---- the symbols

abbrev pub kind_name : Kind → List ℕ
kind_name NoType = codes "NoType"
kind_name Func = codes "Func"
kind_name Object = codes "Object"
kind_name Tls = codes "TLS"
kind_name Unknown = codes "Unknown"

abbrev pub size_entry : Option ℕ → List ℕ
size_entry None = []
size_entry (Some size) = codes ", Size: " ++ decimal size

abbrev pub undefined_entry : Bool → List ℕ
undefined_entry undefined = if undefined then codes ", Undefined: true" else []

abbrev pub weak_entry : Bool → List ℕ
weak_entry weak = if weak then codes ", Weak: true" else []

abbrev pub warning_entry : Option (List ℕ) → List ℕ
warning_entry None = []
warning_entry (Some warning) = codes ", Warning: " ++ printed_scalar warning

-- what each symbol has, and what some have
unfoldable pub first_entries : Symbol → List ℕ
first_entries symbol = codes "Name: " ++ printed_scalar symbol.name ++ codes ", Type: " ++ kind_name symbol.kind

unfoldable pub other_entries : Symbol → List ℕ
other_entries symbol =
    size_entry symbol.size ++ undefined_entry symbol.undefined ++ weak_entry symbol.weak ++ warning_entry symbol.warning

unfoldable pub symbol_line : Symbol → List ℕ
symbol_line symbol = line (codes "  - { " ++ first_entries symbol ++ other_entries symbol ++ codes " }")

abbrev pub symbol_lines : List Symbol → List ℕ
symbol_lines symbols =
    if length symbols == 0 then line (codes "Symbols:         []")
    else line (codes "Symbols:") ++ flat_map symbol_line symbols

-- ---- the whole text

unfoldable pub printed_interface : InterfaceRecord → List ℕ
printed_interface i =
    line (codes "--- !ifs-v1")
    ++ line (codes "IfsVersion:      3.0")
    ++ soname_line i.soname
    ++ target_line i.target
    ++ needed_lines i.needed
    ++ symbol_lines i.symbols
    ++ line (codes "...")
