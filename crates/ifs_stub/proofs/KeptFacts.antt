-- An interface that was extracted has the facts of its library.
use Rattle.std.proofs.Common.{◌≡◌, ℕ, ◌==◌, Bool, true, false, cond, ◌||◌, List, [], ◌∷◌, map, find, Option, Some, None, Ok, refl, sym, ap, ◌∙◌}
use Rattle.std.specs.Prelude.{option_map, option_and_then, if◌then◌else◌}
use Rattle.std.proofs.lemmas.Bool.{eqb-true}
use Rattle.ifs_interface.specs.Extracted.{interface_of, described, symbol_named, visible_names, in_order, rows_named, is_defined, kind_of}
use Rattle.ifs_interface.specs.Facts.{fact_of_type, fact_of_kind, fact_of_symbol, symbol_in, defined_in, defined_by, facts_of_library, facts_of_interface}
use Rattle.ifs_interface.specs.Library.{LibraryRecord}
use Rattle.ifs_interface.specs.Triple.{same_name}
use Rattle.ifs_interface.specs.declared.fact.Fact.TheVariants as fact
use Rattle.ifs_interface.specs.declared.row.DynRow.{DynRow}
use Rattle.ifs_interface.specs.declared.symbol.Kind.TheVariants.{NoType, Func, Object, Tls, Unknown}
use Rattle.ifs_interface.specs.declared.symbol.Symbol.{Symbol}
use Rattle.ifs_interface.proofs.Lists.{has_some, any_map_of, any_by_filter}
use Rattle.ifs_interface.proofs.Names.{same_name-is}
use Rattle.ifs_interface.proofs.WantedRows.{wanted_extracted}
use Rattle.elf_dyn.specs.Library.{library_of}
use Rattle.elf_dyn.specs.Rank.{are_bytes}
use Rattle.ifs_stub.specs.Laws.{form_of_library, facts_in}
use Rattle.ifs_stub.specs.Stub.{stub_of}
use Rattle.ifs_stub.proofs.Extracted.{described_name, form_is, extracted_have_stubs, extracted_are_made}
use Rattle.ifs_stub.proofs.ReadBack.Stubs.{written_has_the_facts}
use Rattle.ifs_stub.proofs.Steps.{ok_is}
use Rattle.ifs_interface.proofs.InOrder.{has, has_in_order}

-- ---- the symbol of a name

found_name : (name : List ℕ) (names : List (List ℕ)) → find (λ n. same_name n name) names ≡ cond (has name names) (Some name) None
found_name name [] = refl
found_name name (n ∷ ns) = by (same_name n name) refl (found_name name ns)
  where
    by : (b : Bool) → same_name n name ≡ b → find (λ m. same_name m name) ns ≡ cond (has name ns) (Some name) None → cond b (Some n) (find (λ m. same_name m name) ns) ≡ cond (b || has name ns) (Some name) None
    by true e rest = ap (λ m. Some m) (same_name-is n name e)
    by false e rest = rest

named : (rows : List DynRow) (n : List ℕ) → (symbol_named rows n).name ≡ n
unfolding symbol_named
named rows n = described_name n (find is_defined (rows_named n rows)) (rows_named n rows)

symbol_by_name : (rows : List DynRow) (name : List ℕ) (names : List (List ℕ)) → symbol_in (map (symbol_named rows) names) name ≡ option_map (symbol_named rows) (find (λ n. same_name n name) names)
symbol_by_name rows name [] = refl
symbol_by_name rows name (n ∷ ns) =
    let rest = symbol_by_name rows name ns in
    ap (λ m. cond (same_name m name) (Some (symbol_named rows n)) (symbol_in (map (symbol_named rows) ns) name)) (named rows n)
    ∙ elim (same_name n name) as (λ b. cond b (Some (symbol_named rows n)) (symbol_in (map (symbol_named rows) ns) name) ≡ option_map (symbol_named rows) (cond b (Some n) (find (λ m. same_name m name) ns)))
    [ true ↦ refl | false ↦ rest ]

-- a name has a symbol where it has rows
abbrev seen : List ℕ → List DynRow → Option Symbol
seen name [] = None
seen name (row ∷ rows) = Some (described name (find is_defined (row ∷ rows)) (row ∷ rows))

where_rows_are : (name : List ℕ) (rows : List DynRow) → cond (has_some rows) (Some (described name (find is_defined rows) rows)) None ≡ seen name rows
where_rows_are name [] = refl
where_rows_are name (row ∷ rows) = refl

map_where : (rows : List DynRow) (name : List ℕ) (b : Bool) → option_map (symbol_named rows) (cond b (Some name) None) ≡ cond b (Some (symbol_named rows name)) None
map_where rows name true = refl
map_where rows name false = refl

symbol_of_name : (rows : List DynRow) (name : List ℕ) → symbol_in (map (symbol_named rows) (visible_names rows)) name ≡ seen name (rows_named name rows)
unfolding visible_names symbol_named
symbol_of_name rows name =
    let names = map (λ (row : DynRow). row.name) rows in
    let there : has name (in_order names) ≡ has_some (rows_named name rows) = has_in_order name names ∙ any_map_of (λ n. same_name n name) (λ (row : DynRow). row.name) rows ∙ any_by_filter (λ (row : DynRow). same_name row.name name) rows in
    symbol_by_name rows name (in_order names) ∙ ap (option_map (symbol_named rows)) (found_name name (in_order names) ∙ ap (λ b. cond b (Some name) None) there)
    ∙ map_where rows name (has_some (rows_named name rows)) ∙ where_rows_are name (rows_named name rows)

-- ---- what it says

by_tests : (b c d : Bool) → fact_of_kind (if b then Object else (if c then Func else (if d then Tls else Unknown))) ≡ (if b then fact.Object else (if c then fact.Func else (if d then fact.Tls else fact.NoType)))
by_tests true c d = refl
by_tests false true d = refl
by_tests false false true = refl
by_tests false false false = refl

same_fact : (t : ℕ) → fact_of_kind (kind_of t) ≡ fact_of_type t
same_fact t = by (t == 0) refl
  where
    by : (b : Bool) → (t == 0) ≡ b → fact_of_kind (if b then NoType else (if t == 1 then Object else (if t == 2 then Func else (if t == 6 then Tls else Unknown)))) ≡ fact_of_type t
    by true e = ap fact_of_type (sym (eqb-true t 0 e))
    by false e = by_tests (t == 1) (t == 2) (t == 6)

fact_of_described : (name : List ℕ) (o : Option DynRow) (row : DynRow) (rows : List DynRow) → fact_of_symbol (described name o (row ∷ rows)) ≡ option_map (λ (r : DynRow). fact_of_type r.kind) o
fact_of_described name None row rows = refl
fact_of_described name (Some r) row rows = ap (λ f. Some f) (same_fact r.kind)

fact_of_seen : (name : List ℕ) (rows : List DynRow) → option_and_then fact_of_symbol (seen name rows) ≡ option_map (λ (r : DynRow). fact_of_type r.kind) (find is_defined rows)
fact_of_seen name [] = refl
fact_of_seen name (row ∷ rows) = fact_of_described name (find is_defined (row ∷ rows)) row rows

same_defined : (rows : List DynRow) (name : List ℕ) → defined_by (map (symbol_named rows) (visible_names rows)) name ≡ defined_in rows name
unfolding defined_by defined_in
same_defined rows name = ap (option_and_then fact_of_symbol) (symbol_of_name rows name) ∙ fact_of_seen name (rows_named name rows)

pub extracted_keep_facts : (library : LibraryRecord) → facts_of_interface (interface_of library) ≡ facts_of_library library
unfolding interface_of
extracted_keep_facts library =
    let wanted = wanted_extracted library in
    λ k. record {
      machine = record { machine = Some library.machine; order = Some library.order; width = Some library.width };
      soname = library.soname;
      needed = library.needed;
      wanted = wanted k;
      fact_of = λ name. same_defined library.rows name k;
    }

pub stubs_of_libraries_have_their_facts : (file stub : List ℕ) (library : LibraryRecord) → are_bytes file ≡ true → library_of file ≡ Ok library → stub_of (interface_of library) ≡ Ok stub → facts_in stub ≡ Ok (facts_of_library library)
stubs_of_libraries_have_their_facts file stub library bytes is stubbed =
    let i = interface_of library in
    let form = form_of_library library in
    let stub_is = ok_is _ _ (stub_of i) stubbed (extracted_are_made file library bytes is) in
    written_has_the_facts i form stub (extracted_have_stubs file library bytes is) (form_is library) stub_is
    ∙ ap (λ facts. Ok facts) (extracted_keep_facts library)
