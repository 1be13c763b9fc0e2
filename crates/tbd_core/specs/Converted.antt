-- Libraries from interfaces, and libraries that a text of another version can hold.
use Rattle.std.specs.Prelude.{ℕ, ◌+◌, ◌==◌, Bool, if◌then◌else◌, List, [], ◌∷◌, ◌++◌, map, drop, position, Option, Some, None, Result, Ok, Err, option_map, option_and_then, codes}
use Rattle.std.specs.List.{starts_with}
use Rattle.std.specs.Prelude.{nat_eq}
use Rattle.ifs_interface.specs.declared.symbol.Kind.{Kind}
use Rattle.ifs_interface.specs.declared.symbol.Kind.TheVariants as kinds
use Rattle.ifs_interface.specs.declared.symbol.Symbol.{Symbol}
use Rattle.ifs_interface.specs.Interface.{InterfaceRecord}
use Rattle.ifs_interface.specs.Parts.{parts_of}
use Rattle.tbd_core.specs.declared.symbol.Section.TheVariants.{Exported, Undefined}
use Rattle.tbd_core.specs.declared.symbol.SymbolKind.{SymbolKind}
use Rattle.tbd_core.specs.declared.symbol.SymbolKind.TheVariants.{Global, ObjcClass, ObjcEhType, ObjcIvar, Weak, ThreadLocal}
use Rattle.tbd_core.specs.declared.symbol.Part.{Part}
use Rattle.tbd_core.specs.declared.symbol.Part.TheVariants.{Any, Data, Code}
use Rattle.tbd_core.specs.declared.symbol.TbdSymbol.{TbdSymbol}
use Rattle.tbd_core.specs.declared.dylib.TbdTarget.{TbdTarget}
use Rattle.tbd_core.specs.declared.dylib.DylibParts.{DylibParts}
use Rattle.tbd_core.specs.declared.dylib.Tbd.{Tbd}
use Rattle.tbd_core.specs.declared.cause.PrintCause.{PrintCause}
use Rattle.tbd_core.specs.declared.cause.PrintCause.TheVariants.{NoPlace}
use Rattle.tbd_core.specs.Version.{first_version}
use Rattle.tbd_core.specs.Union.{united}

-- ---- what version 4 can hold: targets without a least version, symbols of no known part

abbrev pub forgotten_target : TbdTarget → TbdTarget
forgotten_target t = record t { min = None }

abbrev pub forgotten_symbol : TbdSymbol → TbdSymbol
forgotten_symbol s = record s { segment = Any }

abbrev pub with_symbols : List TbdSymbol → DylibParts → DylibParts
with_symbols symbols parts = record parts { symbols = united symbols }

abbrev pub forgotten : DylibParts → DylibParts
forgotten parts =
    record parts { targets = map forgotten_target parts.targets; symbols = united (map forgotten_symbol parts.symbols) }

abbrev pub forgotten_for_v4 : Tbd → Tbd
forgotten_for_v4 tbd = record { main = forgotten tbd.main; inlined = map forgotten tbd.inlined }

-- ---- what version 5 can hold: symbols of known parts

abbrev pub segment_of : SymbolKind → Part
segment_of Global = Code
segment_of Weak = Code
segment_of ObjcClass = Data
segment_of ObjcEhType = Data
segment_of ObjcIvar = Data
segment_of ThreadLocal = Data

abbrev pub segment_or : SymbolKind → Part → Part
segment_or kind Any = segment_of kind
segment_or kind Data = Data
segment_or kind Code = Code

abbrev pub placed_symbol : TbdSymbol → TbdSymbol
placed_symbol s = record s { segment = segment_or s.kind s.segment }

abbrev pub placed : DylibParts → DylibParts
placed parts = record parts { symbols = united (map placed_symbol parts.symbols) }

abbrev pub segments_for_v5 : Tbd → Tbd
segments_for_v5 tbd = record { main = placed tbd.main; inlined = map placed tbd.inlined }

-- ---- a library of an interface

abbrev pub kind_of : Bool → Kind → SymbolKind
kind_of weak kinds.Tls = ThreadLocal
kind_of weak kinds.NoType = if weak then Weak else Global
kind_of weak kinds.Func = if weak then Weak else Global
kind_of weak kinds.Object = if weak then Weak else Global
kind_of weak kinds.Unknown = if weak then Weak else Global

abbrev pub part_of : Kind → Part
part_of kinds.Func = Code
part_of kinds.NoType = Data
part_of kinds.Object = Data
part_of kinds.Tls = Data
part_of kinds.Unknown = Data

-- for the one target
abbrev pub symbol_of : Symbol → TbdSymbol
symbol_of s = record {
  section = if s.undefined then Undefined else Exported;
  kind = kind_of s.weak s.kind;
  segment = part_of s.kind;
  name = s.name;
  targets = 0 ∷ [];
}

-- what stands behind the first dash
abbrev pub behind_dash : List ℕ → Option (List ℕ)
behind_dash text = option_map (λ n. drop (n + 1) text) (position (λ b. b == 45) text)

abbrev pub starts : List ℕ → List ℕ → Bool
starts text word = starts_with nat_eq text word

-- the platform that the third part of a triple names
abbrev pub platform_of : List ℕ → List ℕ
platform_of third =
    if starts third (codes "macos") then codes "-macos"
    else (if starts third (codes "darwin") then codes "-macos"
    else (if starts third (codes "ios") then codes "-ios"
    else codes "-linux"))

abbrev pub platform_by : Option (List ℕ) → List ℕ
platform_by None = codes "-linux"
platform_by (Some third) = platform_of third

abbrev pub platform : Option (List ℕ) → List ℕ
platform triple = platform_by (option_and_then behind_dash (option_and_then behind_dash triple))

-- the architectures that have a name there
abbrev pub arch_by : ℕ → Option (List ℕ)
arch_by machine = if machine == 62 then Some (codes "x86_64") else (if machine == 183 then Some (codes "arm64") else None)

unfoldable pub target_name : InterfaceRecord → Option (List ℕ)
target_name i = option_map (λ arch. arch ++ platform i.target.triple) (option_and_then arch_by (parts_of i.target).machine)

unfoldable pub parts_of_interface : List ℕ → List ℕ → List Symbol → DylibParts
parts_of_interface soname target symbols = record {
  targets = (record { name = target; min = None }) ∷ [];
  flags = [];
  install_name = soname;
  current = first_version;
  compatible = first_version;
  swift_abi = None;
  umbrellas = [];
  clients = [];
  reexported = [];
  rpaths = [];
  symbols = united (map symbol_of symbols);
}

abbrev pub tbd_by : Option (List ℕ) → Option (List ℕ) → List Symbol → Result Tbd PrintCause
tbd_by None target symbols = Err (NoPlace (codes "SoName"))
tbd_by (Some soname) None symbols = Err (NoPlace (codes "Target"))
tbd_by (Some soname) (Some target) symbols = Ok (record { main = parts_of_interface soname target symbols; inlined = [] })

-- the library that an interface is, or what has no place there
unfoldable pub tbd_of_interface : InterfaceRecord → Result Tbd PrintCause
tbd_of_interface i = tbd_by i.soname (target_name i) i.symbols
