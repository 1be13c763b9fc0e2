-- The library of a stub has the facts of the interface that the stub was made from.
use Rattle.std.proofs.Common.{◌≡◌, ℕ, Bool, true, false, cond, List, [], ◌∷◌, map, find, Option, Some, None, Ok, refl, sym, ap, ◌∙◌, subst}
use Rattle.std.specs.Prelude.{option_map, option_and_then}
use Rattle.std.specs.List.{filter_map, list_all}
use Rattle.std.specs.Option.{option_to_list}
use Rattle.std.proofs.lemmas.Bool.{and_parts, and_from}
use Rattle.std.proofs.lemmas.List.Folds.{list_all-map}
use Rattle.ifs_interface.specs.Extracted.{is_defined, rows_named, visible_names}
use Rattle.ifs_interface.specs.Facts.{fact_of_type, fact_of_symbol, symbol_in, defined_in, defined_by, wanted_name, wanted_place, facts_of_library, facts_of_interface}
use Rattle.ifs_interface.specs.Interface.{InterfaceRecord, IsInterface, comes_before, ascends, names_of}
use Rattle.ifs_interface.specs.Parts.{parts_of}
use Rattle.ifs_interface.specs.Triple.{same_name}
use Rattle.ifs_interface.specs.declared.row.DynRow.{DynRow}
use Rattle.ifs_interface.specs.declared.symbol.Kind.{Kind}
use Rattle.ifs_interface.specs.declared.symbol.Kind.TheVariants.{NoType, Func, Object, Tls, Unknown}
use Rattle.ifs_interface.specs.declared.symbol.Symbol.{Symbol}
use Rattle.ifs_interface.specs.declared.target.Target.{Target}
use Rattle.ifs_interface.proofs.Names.{same_name-is}
use Rattle.ifs_interface.proofs.WantedRows.{wanted_extracted, filter_map_by}
use Rattle.ifs_stub.specs.Stub.{form_of}
use Rattle.ifs_stub.specs.StubLibrary.{stub_row, stub_library}
use Rattle.ifs_stub.specs.declared.layout.Form.{Form}
use Rattle.ifs_stub.specs.Forget.{forget_symbol, forget}
use Rattle.ifs_stub.proofs.ReadBack.Interfaces.{target_by, stubs_keep_interfaces}
use Rattle.ifs_stub.proofs.Runs.{rows_of_run}

-- a name has the row of its symbol, if there is one
rows_of_name : (name : List ℕ) (symbols : List Symbol) → ascends (names_of symbols) ≡ true → rows_named name (map stub_row symbols) ≡ option_to_list (option_map stub_row (symbol_in symbols name))
rows_of_name name [] up = refl
rows_of_name name (s ∷ ss) up =
    let parts = and_parts (list_all (comes_before s.name) (names_of ss)) (ascends (names_of ss)) up in
    by (same_name s.name name) refl parts.0 (rows_of_name name ss parts.1)
  where
    rows : List DynRow
    rows = map stub_row ss

    by : (b : Bool) → same_name s.name name ≡ b → list_all (comes_before s.name) (names_of ss) ≡ true → rows_named name rows ≡ option_to_list (option_map stub_row (symbol_in ss name)) → rows_named name (stub_row s ∷ rows) ≡ option_to_list (option_map stub_row (cond b (Some s) (symbol_in ss name)))
    by true e later rest =
        let after : list_all (λ row. comes_before s.name row.name) rows ≡ true = list_all-map (λ (row : DynRow). comes_before s.name row.name) stub_row ss ∙ sym (list_all-map (comes_before s.name) (λ (t : Symbol). t.name) ss) ∙ later in
        rows_of_run name (stub_row s ∷ []) rows (and_from (same_name s.name name) true e refl) (subst (λ n. list_all (λ row. comes_before n row.name) rows ≡ true) (same_name-is s.name name e) after)
    by false e later rest = ap (λ t. cond t (stub_row s ∷ rows_named name rows) (rows_named name rows)) e ∙ rest

-- what that row says
fact_of_row : (undefined : Bool) (kind : Kind) (name : List ℕ) (size : Option ℕ) (weak : Bool) (warning : Option (List ℕ)) → option_map (λ (row : DynRow). fact_of_type row.kind) (find is_defined (stub_row (record { name = name; kind = kind; size = size; weak = weak; undefined = undefined; warning = warning }) ∷ [])) ≡ fact_of_symbol (record { name = name; kind = kind; size = size; weak = weak; undefined = undefined; warning = warning })
fact_of_row true kind name size weak warning = refl
fact_of_row false NoType name size weak warning = refl
fact_of_row false Func name size weak warning = refl
fact_of_row false Object name size weak warning = refl
fact_of_row false Tls name size weak warning = refl
fact_of_row false Unknown name size weak warning = refl

defined_of : (o : Option Symbol) → option_map (λ (row : DynRow). fact_of_type row.kind) (find is_defined (option_to_list (option_map stub_row o))) ≡ option_and_then fact_of_symbol o
defined_of None = refl
defined_of (Some s) = fact_of_row s.undefined s.kind s.name s.size s.weak s.warning

same_defined : (symbols : List Symbol) → ascends (names_of symbols) ≡ true → (name : List ℕ) → defined_in (map stub_row symbols) name ≡ defined_by symbols name
unfolding defined_in defined_by
same_defined symbols up name =
    ap (λ rows. option_map (λ (row : DynRow). fact_of_type row.kind) (find is_defined rows)) (rows_of_name name symbols up) ∙ defined_of (symbol_in symbols name)

-- a stub keeps of each symbol whether and how it is wanted
same_wanted : (i : InterfaceRecord) (form : Form) → IsInterface i → form_of (parts_of i.target) ≡ Ok form → filter_map (wanted_name (map stub_row i.symbols)) (visible_names (map stub_row i.symbols)) ≡ filter_map wanted_place i.symbols
unfolding stub_library forget
same_wanted i form is formed =
    sym (wanted_extracted (stub_library i form))
    ∙ ap (λ (j : InterfaceRecord). filter_map wanted_place j.symbols) (stubs_keep_interfaces i form is formed)
    ∙ filter_map_by wanted_place forget_symbol wanted_place (λ s. refl) i.symbols

pub stubs_keep_facts : (i : InterfaceRecord) (form : Form) → IsInterface i → form_of (parts_of i.target) ≡ Ok form → facts_of_library (stub_library i form) ≡ facts_of_interface i
unfolding stub_library
stubs_keep_facts i form is formed =
    let fact = parts_of i.target in
    let target = target_by fact.machine fact.order fact.width form formed in
    let machine : fact ≡ record { machine = Some form.machine; order = Some form.order; width = Some form.width } = ap (λ (t : Target). record { machine = t.machine; order = t.order; width = t.width }) target in
    let wanted = same_wanted i form is formed in
    λ k. record {
      machine = sym machine k;
      soname = i.soname;
      needed = i.needed;
      wanted = wanted k;
      fact_of = λ name. same_defined i.symbols is.ascending name k;
    }
