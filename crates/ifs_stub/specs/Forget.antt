-- What is left of an interface in its stub: a stub has no place for a type that isn't known, for a size that is
-- absent, for a warning and for the name of a triple.
use Rattle.std.specs.Prelude.{Bool, true, false, map, None, unwrap_or}
use Rattle.ifs_interface.specs.Interface.{InterfaceRecord}
use Rattle.ifs_interface.specs.Parts.{parts_of}
use Rattle.ifs_interface.specs.Extracted.{size_of}
use Rattle.ifs_interface.specs.declared.symbol.Kind.{Kind}
use Rattle.ifs_interface.specs.declared.symbol.Kind.TheVariants.{NoType, Func, Object, Tls, Unknown}
use Rattle.ifs_interface.specs.declared.symbol.Symbol.{Symbol}
use Rattle.ifs_interface.specs.declared.target.MachineFact.{MachineFact}
use Rattle.ifs_interface.specs.declared.target.Target.{Target}

abbrev pub is_known : Kind → Bool
is_known Unknown = false
is_known NoType = true
is_known Func = true
is_known Object = true
is_known Tls = true

-- Unknown is NoType
abbrev pub known_kind : Kind → Kind
known_kind Unknown = NoType
known_kind NoType = NoType
known_kind Func = Func
known_kind Object = Object
known_kind Tls = Tls

-- an absent size is 0, and then the size goes by the type
abbrev pub forget_symbol : Symbol → Symbol
forget_symbol symbol = record {
  name = symbol.name;
  kind = known_kind symbol.kind;
  size = size_of (known_kind symbol.kind) (unwrap_or symbol.size 0);
  weak = symbol.weak;
  undefined = symbol.undefined;
  warning = None;
}

-- the triple is the machine, order and width that it gives
abbrev pub forget_target : MachineFact → Target
forget_target fact = record { triple = None; machine = fact.machine; order = fact.order; width = fact.width }

unfoldable pub forget : InterfaceRecord → InterfaceRecord
forget i = record {
  soname = i.soname;
  target = forget_target (parts_of i.target);
  needed = i.needed;
  symbols = map forget_symbol i.symbols;
}
