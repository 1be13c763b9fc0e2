-- The interface of a library: one symbol for each name among its visible rows, in byte order.
use Rattle.std.specs.Prelude.{ℕ, Bool, true, false, not, ◌==◌, if◌then◌else◌, List, [], ◌∷◌, map, filter, Option, Some, None}
use Rattle.std.specs.List.{find, list_all}
use Rattle.std.specs.Ordering.{nat_cmp, match_ordering}
use Rattle.std.specs.Cmp.Lexicographic.{slice_cmp}
use Rattle.ifs_interface.specs.declared.row.DynRow.{DynRow}
use Rattle.ifs_interface.specs.declared.symbol.Kind.{Kind}
use Rattle.ifs_interface.specs.declared.symbol.Kind.TheVariants.{NoType, Func, Object, Tls, Unknown}
use Rattle.ifs_interface.specs.declared.symbol.Symbol.{Symbol}
use Rattle.ifs_interface.specs.Triple.{same_name}
use Rattle.ifs_interface.specs.Library.{LibraryRecord}
use Rattle.ifs_interface.specs.Interface.{InterfaceRecord}

-- a row's section index is SHN_UNDEF where the library only wants the symbol (gABI, "Symbol Table")
abbrev pub is_defined : DynRow → Bool
is_defined row = not (row.shndx == 0)

-- STB_WEAK
abbrev pub is_weak : DynRow → Bool
is_weak row = row.binding == 2

-- STT_NOTYPE, STT_OBJECT, STT_FUNC, STT_TLS
abbrev pub kind_of : ℕ → Kind
kind_of type_number =
    if type_number == 0 then NoType
    else (if type_number == 1 then Object
    else (if type_number == 2 then Func
    else (if type_number == 6 then Tls
    else Unknown)))

-- data has its size, code none, and anything else a size that isn't 0
abbrev pub size_of : Kind → ℕ → Option ℕ
size_of Func size = None
size_of Object size = Some size
size_of Tls size = Some size
size_of NoType size = if size == 0 then None else Some size
size_of Unknown size = if size == 0 then None else Some size

abbrev pub rows_named : List ℕ → List DynRow → List DynRow
rows_named name rows = filter (λ row. same_name row.name name) rows

-- the symbol that a row describes
abbrev pub symbol_of : List ℕ → DynRow → Bool → Bool → Symbol
symbol_of name row weak undefined = record {
  name = name;
  kind = kind_of row.kind;
  size = size_of (kind_of row.kind) row.size;
  weak = weak;
  undefined = undefined;
  warning = None;
}

-- a wanted name is described by its first row, and is weak where each row is; no name without rows is asked for
abbrev pub wanted_symbol : List ℕ → List DynRow → Symbol
wanted_symbol name [] = record { name = name; kind = NoType; size = None; weak = true; undefined = true; warning = None }
wanted_symbol name (row ∷ rows) = symbol_of name row (list_all is_weak (row ∷ rows)) true

-- a defined name is described by its first defined row
abbrev pub described : List ℕ → Option DynRow → List DynRow → Symbol
described name (Some row) rows = symbol_of name row (is_weak row) false
described name None rows = wanted_symbol name rows

-- the symbol of a name, by the rows of that name
unfoldable pub symbol_named : List DynRow → List ℕ → Symbol
symbol_named rows name = described name (find is_defined (rows_named name rows)) (rows_named name rows)

-- a name put among names in byte order, once
abbrev pub insert_name : List ℕ → List (List ℕ) → List (List ℕ)
insert_name n [] = n ∷ []
insert_name n (m ∷ ms) = match_ordering (slice_cmp nat_cmp n m) (n ∷ m ∷ ms) (m ∷ ms) (m ∷ insert_name n ms)

-- names in byte order, each once
abbrev pub in_order : List (List ℕ) → List (List ℕ)
in_order [] = []
in_order (n ∷ ns) = insert_name n (in_order ns)

-- the names of rows, in byte order, each once
unfoldable pub visible_names : List DynRow → List (List ℕ)
visible_names rows = in_order (map (λ row. row.name) rows)

unfoldable pub interface_of : LibraryRecord → InterfaceRecord
interface_of library = record {
  soname = library.soname;
  target = record { triple = None; machine = Some library.machine; order = Some library.order; width = Some library.width };
  needed = library.needed;
  symbols = map (symbol_named library.rows) (visible_names library.rows);
}
