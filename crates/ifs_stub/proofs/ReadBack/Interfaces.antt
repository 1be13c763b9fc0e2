-- The library of a stub has the interface that the stub was made from.
use Rattle.std.proofs.Common.{◌≡◌, ℕ, Bool, true, false, List, [], ◌∷◌, map, Option, Some, None, Ok, refl, sym, ap, ◌∙◌}
use Rattle.std.specs.List.{list_all}
use Rattle.std.proofs.lemmas.Bool.{and_parts, and_from}
use Rattle.ifs_bytes.specs.declared.form.Order.{Order}
use Rattle.ifs_bytes.specs.declared.form.Width.{Width}
use Rattle.ifs_interface.specs.Interface.{InterfaceRecord, IsInterface, comes_before, ascends, names_of}
use Rattle.ifs_interface.specs.Extracted.{interface_of, visible_names}
use Rattle.ifs_interface.specs.Parts.{parts_of}
use Rattle.ifs_interface.specs.Triple.{same_name}
use Rattle.ifs_interface.specs.declared.row.DynRow.{DynRow}
use Rattle.ifs_interface.specs.declared.symbol.Kind.{Kind}
use Rattle.ifs_interface.specs.declared.symbol.Kind.TheVariants.{NoType, Func, Object, Tls, Unknown}
use Rattle.ifs_interface.specs.declared.symbol.Symbol.{Symbol}
use Rattle.ifs_interface.proofs.Names.{same_name-itself}
use Rattle.ifs_stub.specs.declared.layout.Form.{Form}
use Rattle.ifs_stub.specs.Stub.{form_of}
use Rattle.ifs_stub.specs.Rows.{symbol_of_run, symbols_by_name}
use Rattle.ifs_stub.proofs.Runs.{symbols_of_run}
use Rattle.std.proofs.lemmas.List.Folds.{list_all-map}
use Rattle.ifs_stub.specs.Forget.{forget_symbol, forget_target, forget}
use Rattle.ifs_stub.specs.StubLibrary.{stub_row, stub_library}

-- a row alone describes the symbol that it was made from
symbol_of_row : (name : List ℕ) (kind : Kind) (size : Option ℕ) (weak undefined : Bool) (warning : Option (List ℕ)) → symbol_of_run (stub_row (record { name = name; kind = kind; size = size; weak = weak; undefined = undefined; warning = warning }) ∷ []) ≡ forget_symbol (record { name = name; kind = kind; size = size; weak = weak; undefined = undefined; warning = warning })
symbol_of_row name NoType size true true warning = refl
symbol_of_row name NoType size true false warning = refl
symbol_of_row name NoType size false true warning = refl
symbol_of_row name NoType size false false warning = refl
symbol_of_row name Func size true true warning = refl
symbol_of_row name Func size true false warning = refl
symbol_of_row name Func size false true warning = refl
symbol_of_row name Func size false false warning = refl
symbol_of_row name Object size true true warning = refl
symbol_of_row name Object size true false warning = refl
symbol_of_row name Object size false true warning = refl
symbol_of_row name Object size false false warning = refl
symbol_of_row name Tls size true true warning = refl
symbol_of_row name Tls size true false warning = refl
symbol_of_row name Tls size false true warning = refl
symbol_of_row name Tls size false false warning = refl
symbol_of_row name Unknown size true true warning = refl
symbol_of_row name Unknown size true false warning = refl
symbol_of_row name Unknown size false true warning = refl
symbol_of_row name Unknown size false false warning = refl

symbols_of_rows : (symbols : List Symbol) → ascends (names_of symbols) ≡ true → symbols_by_name (map stub_row symbols) ≡ map forget_symbol symbols
unfolding visible_names
symbols_of_rows [] up = refl
symbols_of_rows (s ∷ ss) up =
    let parts = and_parts (list_all (comes_before s.name) (names_of ss)) (ascends (names_of ss)) up in
    let after : list_all (λ row. comes_before s.name row.name) (map stub_row ss) ≡ true = list_all-map (λ (row : DynRow). comes_before s.name row.name) stub_row ss ∙ sym (list_all-map (comes_before s.name) (λ (t : Symbol). t.name) ss) ∙ parts.0 in
    symbols_of_run (stub_row s) [] (map stub_row ss) (and_from (same_name s.name s.name) true (same_name-itself s.name) refl) after
    ∙ ap (λ x. x ∷ symbols_by_name (map stub_row ss)) (symbol_of_row s.name s.kind s.size s.weak s.undefined s.warning)
    ∙ ap (λ xs. forget_symbol s ∷ xs) (symbols_of_rows ss parts.1)

-- the target of the library
pub target_by : (m : Option ℕ) (o : Option Order) (w : Option Width) (form : Form) → form_of (record { machine = m; order = o; width = w }) ≡ Ok form → forget_target (record { machine = m; order = o; width = w }) ≡ record { triple = None; machine = Some form.machine; order = Some form.order; width = Some form.width }
unfolding form_of
target_by (Some m) (Some o) (Some w) form is =
    let same : record { machine = m; order = o; width = w } ≡ form = cc in
    ap (λ (f : Form). forget_target (record { machine = Some f.machine; order = Some f.order; width = Some f.width })) same
target_by None o w form is = absurd (cc)
target_by (Some m) o None form is = absurd (cc)
target_by (Some m) None (Some w) form is = absurd (cc)

pub stubs_keep_interfaces : (i : InterfaceRecord) (form : Form) → IsInterface i → form_of (parts_of i.target) ≡ Ok form → interface_of (stub_library i form) ≡ forget i
unfolding interface_of stub_library forget
stubs_keep_interfaces i form is formed =
    ap (λ symbols. record { soname = i.soname; target = record { triple = None; machine = Some form.machine; order = Some form.order; width = Some form.width }; needed = i.needed; symbols = symbols }) (symbols_of_rows i.symbols is.ascending)
    ∙ ap (λ target. record { soname = i.soname; target = target; needed = i.needed; symbols = map forget_symbol i.symbols }) (sym (target_by (parts_of i.target).machine (parts_of i.target).order (parts_of i.target).width form formed))
