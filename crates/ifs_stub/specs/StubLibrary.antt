-- The library that the stub of an interface stands for.
use Rattle.std.specs.Prelude.{if◌then◌else◌, false, map, unwrap_or}
use Rattle.ifs_interface.specs.Interface.{InterfaceRecord}
use Rattle.ifs_interface.specs.Library.{LibraryRecord}
use Rattle.ifs_interface.specs.declared.row.DynRow.{DynRow}
use Rattle.ifs_interface.specs.declared.symbol.Symbol.{Symbol}
use Rattle.ifs_stub.specs.declared.layout.Form.{Form}
use Rattle.ifs_stub.specs.StubFile.{binding_of, type_of}

-- the visible row of a symbol: all that are defined are of section 1, and none has a value
abbrev pub stub_row : Symbol → DynRow
stub_row symbol = record {
  name = symbol.name;
  binding = binding_of symbol.weak;
  kind = type_of symbol.kind;
  shndx = if symbol.undefined then 0 else 1;
  value = 0;
  size = unwrap_or symbol.size 0;
}

-- the library has the soname and the needed libraries of the interface, and one row for each symbol, in order
unfoldable pub stub_library : InterfaceRecord → Form → LibraryRecord
stub_library i form = record {
  machine = form.machine;
  order = form.order;
  width = form.width;
  soname = i.soname;
  needed = i.needed;
  rows = map stub_row i.symbols;
  versioned = false;
}
