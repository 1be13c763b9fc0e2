-- A stub has all of an interface that was extracted, where each type is known.
use Rattle.std.proofs.Common.{◌≡◌, ℕ, ◌==◌, Bool, true, false, List, [], ◌∷◌, map, find, Option, Some, None, refl, ap, ◌∙◌}
use Rattle.std.specs.Prelude.{unwrap_or, if◌then◌else◌}
use Rattle.std.specs.List.{list_all}
use Rattle.std.proofs.lemmas.Bool.{and_parts, false≢true}
use Rattle.ifs_interface.specs.Extracted.{interface_of, described, symbol_named, visible_names, rows_named, is_defined, size_of, kind_of}
use Rattle.ifs_interface.specs.Library.{LibraryRecord}
use Rattle.ifs_interface.specs.declared.row.DynRow.{DynRow}
use Rattle.ifs_interface.specs.declared.symbol.Kind.{Kind}
use Rattle.ifs_interface.specs.declared.symbol.Kind.TheVariants.{NoType, Func, Object, Tls, Unknown}
use Rattle.ifs_stub.specs.Forget.{known_kind, is_known, forget_symbol, forget}
use Rattle.ifs_stub.specs.Laws.{has_known_kind}

kept_by : (size : ℕ) (b : Bool) → (size == 0) ≡ b → size_of NoType (unwrap_or (if b then None else Some size) 0) ≡ (if b then None else Some size)
kept_by size true e = refl
kept_by size false e = ap (λ t. if t then None else Some size) e

kept_size : (kind : Kind) (size : ℕ) → is_known kind ≡ true → size_of (known_kind kind) (unwrap_or (size_of kind size) 0) ≡ size_of kind size
kept_size NoType size known = kept_by size (size == 0) refl
kept_size Func size known = refl
kept_size Object size known = refl
kept_size Tls size known = refl
kept_size Unknown size known = absurd (false≢true known)

kept_kind : (kind : Kind) → is_known kind ≡ true → known_kind kind ≡ kind
kept_kind NoType known = refl
kept_kind Func known = refl
kept_kind Object known = refl
kept_kind Tls known = refl
kept_kind Unknown known = absurd (false≢true known)

kept_row : (name : List ℕ) (kind : Kind) (size : ℕ) (weak undefined : Bool) → is_known kind ≡ true → forget_symbol (record { name = name; kind = kind; size = size_of kind size; weak = weak; undefined = undefined; warning = None }) ≡ record { name = name; kind = kind; size = size_of kind size; weak = weak; undefined = undefined; warning = None }
kept_row name kind size weak undefined known k = record {
  name = name;
  kind = kept_kind kind known k;
  size = kept_size kind size known k;
  weak = weak;
  undefined = undefined;
  warning = None;
}

kept_described : (name : List ℕ) (o : Option DynRow) (rows : List DynRow) → has_known_kind (described name o rows) ≡ true → forget_symbol (described name o rows) ≡ described name o rows
kept_described name (Some row) rows known = kept_row name (kind_of row.kind) row.size _ false known
kept_described name None [] known = refl
kept_described name None (row ∷ rows) known = kept_row name (kind_of row.kind) row.size _ true known

kept_symbols : (rows : List DynRow) (names : List (List ℕ)) → list_all has_known_kind (map (symbol_named rows) names) ≡ true → map forget_symbol (map (symbol_named rows) names) ≡ map (symbol_named rows) names
unfolding symbol_named
kept_symbols rows [] known = refl
kept_symbols rows (n ∷ ns) known =
    let parts = and_parts (has_known_kind (symbol_named rows n)) (list_all has_known_kind (map (symbol_named rows) ns)) known in
    let others = map (symbol_named rows) ns in
    ap (λ s. s ∷ map forget_symbol others) (kept_described n (find is_defined (rows_named n rows)) (rows_named n rows) parts.0)
    ∙ ap (λ ss. symbol_named rows n ∷ ss) (kept_symbols rows ns parts.1)

pub extracted_are_kept : (library : LibraryRecord) → list_all has_known_kind (interface_of library).symbols ≡ true → forget (interface_of library) ≡ interface_of library
unfolding forget interface_of
extracted_are_kept library known k = record {
  soname = library.soname;
  target = record { triple = None; machine = Some library.machine; order = Some library.order; width = Some library.width };
  needed = library.needed;
  symbols = kept_symbols library.rows (visible_names library.rows) known k;
}
