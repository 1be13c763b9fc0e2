-- The order of symbols: by section, kind, segment and name. All four as one key, whose byte order is that order.
use Rattle.std.specs.Prelude.{ℕ, List, ◌∷◌}
use Rattle.tbd_core.specs.declared.symbol.Section.{Section}
use Rattle.tbd_core.specs.declared.symbol.Section.TheVariants.{Exported, Reexported, Undefined}
use Rattle.tbd_core.specs.declared.symbol.SymbolKind.{SymbolKind}
use Rattle.tbd_core.specs.declared.symbol.SymbolKind.TheVariants.{Global, ObjcClass, ObjcEhType, ObjcIvar, Weak, ThreadLocal}
use Rattle.tbd_core.specs.declared.symbol.Part.{Part}
use Rattle.tbd_core.specs.declared.symbol.Part.TheVariants.{Any, Data, Code}
use Rattle.tbd_core.specs.declared.symbol.TbdSymbol.{TbdSymbol}

abbrev pub section_rank : Section → ℕ
section_rank Exported = 0
section_rank Reexported = 1
section_rank Undefined = 2

abbrev pub kind_rank : SymbolKind → ℕ
kind_rank Global = 0
kind_rank ObjcClass = 1
kind_rank ObjcEhType = 2
kind_rank ObjcIvar = 3
kind_rank Weak = 4
kind_rank ThreadLocal = 5

abbrev pub part_rank : Part → ℕ
part_rank Any = 0
part_rank Data = 1
part_rank Code = 2

-- section, kind, segment and name
abbrev pub key_of : TbdSymbol → List ℕ
key_of s = section_rank s.section ∷ kind_rank s.kind ∷ part_rank s.segment ∷ s.name
