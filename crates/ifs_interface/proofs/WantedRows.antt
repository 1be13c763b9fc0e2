-- The wanted names among rows, one by one, say what the rows say of each name.
use Rattle.std.proofs.Common.{◌≡◌, ℕ, Bool, true, false, not, ◌&&◌, ◌||◌, cond, List, [], ◌∷◌, map, Option, Some, None, refl, sym, ap, ◌∙◌, subst}
use Rattle.std.specs.Prelude.{is_none}
use Rattle.std.specs.List.{find, filter_map, cons_option, list_all, list_any}
use Rattle.std.specs.Option.{option_map, is_some}
use Rattle.ifs_interface.specs.declared.row.DynRow.{DynRow}
use Rattle.ifs_interface.specs.declared.symbol.Symbol.{Symbol}
use Rattle.ifs_interface.specs.Triple.{same_name}
use Rattle.ifs_interface.specs.Interface.{ascends, names_of}
use Rattle.ifs_interface.specs.Library.{LibraryRecord}
use Rattle.ifs_interface.specs.Extracted.{is_defined, is_weak, rows_named, described, symbol_named, visible_names, interface_of}
use Rattle.ifs_interface.specs.Facts.{fact_of_type, defined_in, is_strong, wanted_name, wanted_names, wanted_of, wanted_row, wanted_place, strength_at, together, wanted_among, facts_of_library}
use Rattle.ifs_interface.proofs.Names.{same_name-is}
use Rattle.ifs_interface.proofs.Lists.{any_map_of, any_by_filter, has_some, map_map, map_itself}
use Rattle.ifs_interface.proofs.InOrder.{has, has_in_order, in_order_ascends}
use Rattle.ifs_interface.proofs.Lookup.{wanted_ascend}

-- ---- the strengths with which a name stands in the list

is_defined_in : List DynRow → List ℕ → Bool
is_defined_in all name = is_some (defined_in all name)

strengths : List DynRow → List ℕ → List DynRow → List Bool
strengths all name rows = filter_map (strength_at name) (map (wanted_row all) rows)

-- none where the name is defined, else one for each of its rows
unless_defined : Bool → List DynRow → List Bool
unless_defined true rows = []
unless_defined false rows = map is_strong rows

strength_here : (all : List DynRow) (name : List ℕ) (row : DynRow) → same_name row.name name ≡ true → strength_at name (wanted_row all row) ≡ cond (is_defined_in all name) None (Some (is_strong row))
unfolding wanted_row is_defined_in
strength_here all name row same =
    ap (λ n. strength_at name (cond (is_some (defined_in all n)) None (Some (row.name, is_strong row)))) (same_name-is row.name name same) ∙ by (is_some (defined_in all name))
  where
    by : (d : Bool) → strength_at name (cond d None (Some (row.name, is_strong row))) ≡ cond d None (Some (is_strong row))
    by true = refl
    by false = ap (λ t. cond t (Some (is_strong row)) None) same

strength_past : (all : List DynRow) (name : List ℕ) (row : DynRow) → same_name row.name name ≡ false → strength_at name (wanted_row all row) ≡ None
unfolding wanted_row
strength_past all name row differs = by (is_some (defined_in all row.name))
  where
    by : (d : Bool) → strength_at name (cond d None (Some (row.name, is_strong row))) ≡ None
    by true = refl
    by false = ap (λ t. cond t (Some (is_strong row)) None) differs

strengths_are : (all : List DynRow) (name : List ℕ) (rows : List DynRow) → strengths all name rows ≡ unless_defined (is_defined_in all name) (rows_named name rows)
unfolding strengths unless_defined
strengths_are all name [] = by (is_defined_in all name)
  where
    by : (d : Bool) → [] ≡ unless_defined d []
    by true = refl
    by false = refl
strengths_are all name (row ∷ rows) = by (same_name row.name name) refl (strengths_are all name rows)
  where
    more : (d : Bool) → cons_option (cond d None (Some (is_strong row))) (unless_defined d (rows_named name rows)) ≡ unless_defined d (row ∷ rows_named name rows)
    more true = refl
    more false = refl

    by : (t : Bool) → same_name row.name name ≡ t → strengths all name rows ≡ unless_defined (is_defined_in all name) (rows_named name rows) → cons_option (strength_at name (wanted_row all row)) (strengths all name rows) ≡ unless_defined (is_defined_in all name) (cond t (row ∷ rows_named name rows) (rows_named name rows))
    by true e rest =
        ap (λ o. cons_option o (strengths all name rows)) (strength_here all name row e)
        ∙ ap (cons_option (cond (is_defined_in all name) None (Some (is_strong row)))) rest
        ∙ more (is_defined_in all name)
    by false e rest = ap (λ o. cons_option o (strengths all name rows)) (strength_past all name row e) ∙ rest

some_is_strong : (rows : List DynRow) → not (list_all is_weak rows) ≡ list_any is_strong rows
some_is_strong [] = refl
some_is_strong (row ∷ rows) = by (is_weak row) (some_is_strong rows)
  where
    by : (b : Bool) → not (list_all is_weak rows) ≡ list_any is_strong rows → not (b && list_all is_weak rows) ≡ (not b || list_any is_strong rows)
    by true rest = rest
    by false rest = refl

-- ---- the look-up

abbrev looked_up : List ℕ → List (List ℕ × Bool) → Option Bool
looked_up name wanted = option_map (λ w. w.1) (find (λ w. same_name w.0 name) wanted)

abbrev strength_by : List DynRow → List ℕ → Option Bool
strength_by all name = option_map (λ w. w.1) (wanted_name all name)

looked_up_is : (all : List DynRow) (name : List ℕ) (names : List (List ℕ)) → looked_up name (filter_map (wanted_name all) names) ≡ cond (has name names) (strength_by all name) None
unfolding wanted_name
looked_up_is all name [] = refl
looked_up_is all name (n ∷ ns) = by (same_name n name) refl (looked_up_is all name ns)
  where
    rest_of : List (List ℕ × Bool)
    rest_of = filter_map (wanted_name all) ns

    strong : List ℕ → Bool
    strong m = list_any is_strong (rows_named m all)

    twice : (b : Bool) (o : Option Bool) → o ≡ None → cond b o None ≡ None
    twice true o e = e
    twice false o e = refl

    here : (w : Bool) → is_none (find is_defined (rows_named n all)) ≡ w → same_name n name ≡ true → n ≡ name → looked_up name rest_of ≡ cond (has name ns) (strength_by all name) None → looked_up name (cons_option (cond w (Some (n, strong n)) None) rest_of) ≡ strength_by all name
    here true e same is rest =
        ap (λ t. option_map (λ w. w.1) (cond t (Some (n, strong n)) (find (λ w. same_name w.0 name) rest_of))) same
        ∙ sym (ap (λ t. option_map (λ (w : List ℕ × Bool). w.1) (cond t (Some (n, strong n)) None)) e)
        ∙ ap (strength_by all) is
    here false e same is rest =
        let none : strength_by all name ≡ None = sym (ap (strength_by all) is) ∙ ap (λ t. option_map (λ (w : List ℕ × Bool). w.1) (cond t (Some (n, strong n)) None)) e in
        rest ∙ twice (has name ns) (strength_by all name) none ∙ sym none

    past : (w : Bool) → same_name n name ≡ false → looked_up name (cons_option (cond w (Some (n, strong n)) None) rest_of) ≡ looked_up name rest_of
    past true differs = ap (λ t. option_map (λ w. w.1) (cond t (Some (n, strong n)) (find (λ w. same_name w.0 name) rest_of))) differs
    past false differs = refl

    by : (b : Bool) → same_name n name ≡ b → looked_up name rest_of ≡ cond (has name ns) (strength_by all name) None → looked_up name (cons_option (wanted_name all n) rest_of) ≡ cond (b || has name ns) (strength_by all name) None
    by true e rest = here (is_none (find is_defined (rows_named n all))) refl e (same_name-is n name e) rest
    by false e rest = past (is_none (find is_defined (rows_named n all))) e ∙ rest

-- a name is visible where it has rows
is_visible : (rows : List DynRow) (name : List ℕ) → has name (visible_names rows) ≡ has_some (rows_named name rows)
unfolding visible_names
is_visible rows name =
    has_in_order name (map (λ (row : DynRow). row.name) rows)
    ∙ any_map_of (λ n. same_name n name) (λ (row : DynRow). row.name) rows
    ∙ any_by_filter (λ (row : DynRow). same_name row.name name) rows

together_is : (name : List ℕ) (found : Option DynRow) (rows : List DynRow) → together (unless_defined (is_some (option_map (λ (row : DynRow). fact_of_type row.kind) found)) rows) ≡ cond (has_some rows) (option_map (λ (w : List ℕ × Bool). w.1) (cond (is_none found) (Some (name, list_any is_strong rows)) None)) None
unfolding unless_defined
together_is name (Some row) [] = refl
together_is name (Some row) (r ∷ rs) = refl
together_is name None [] = refl
together_is name None (r ∷ rs) = ap (λ b. Some b) (any_map_of (λ s. s) is_strong (r ∷ rs))

pub wanted_are : (library : LibraryRecord) (name : List ℕ) → wanted_among (map (wanted_row library.rows) library.rows) name ≡ wanted_of (facts_of_library library) name
unfolding wanted_among defined_in strengths is_defined_in wanted_name
wanted_are library name =
    let rows = library.rows in
    ap together (strengths_are rows name rows) ∙ together_is name (find is_defined (rows_named name rows)) (rows_named name rows)
    ∙ sym (ap (λ b. cond b (strength_by rows name) None) (is_visible rows name))
    ∙ sym (looked_up_is rows name (visible_names rows))

-- ---- as the interface of the library has them

place_described : (name : List ℕ) (found : Option DynRow) (rows : List DynRow) → wanted_place (described name found rows) ≡ cond (is_none found) (Some (name, list_any is_strong rows)) None
place_described name (Some row) rows = refl
place_described name None [] = refl
place_described name None (row ∷ rows) = ap (λ b. Some (name, b)) (some_is_strong (row ∷ rows))

pub filter_map_by : {X Y Z : Type 0} (f : Y → Option Z) (g : X → Y) (h : X → Option Z) → ((x : X) → f (g x) ≡ h x) → (xs : List X) → filter_map f (map g xs) ≡ filter_map h xs
filter_map_by f g h same [] = refl
filter_map_by f g h same (x ∷ xs) =
    ap (λ o. cons_option o (filter_map f (map g xs))) (same x) ∙ ap (cons_option (h x)) (filter_map_by f g h same xs)

place_named : (rows : List DynRow) (name : List ℕ) → wanted_place (symbol_named rows name) ≡ wanted_name rows name
unfolding symbol_named wanted_name
place_named rows name = place_described name (find is_defined (rows_named name rows)) (rows_named name rows)

pub wanted_extracted : (library : LibraryRecord) → filter_map wanted_place (interface_of library).symbols ≡ filter_map (wanted_name library.rows) (visible_names library.rows)
unfolding interface_of
wanted_extracted library = filter_map_by wanted_place (symbol_named library.rows) (wanted_name library.rows) (place_named library.rows) (visible_names library.rows)

-- ---- their order

named : (rows : List DynRow) (n : List ℕ) → (symbol_named rows n).name ≡ n
unfolding symbol_named
named rows n = by (find is_defined (rows_named n rows)) (rows_named n rows)
  where
    by : (o : Option DynRow) (some : List DynRow) → (described n o some).name ≡ n
    by (Some row) some = refl
    by None [] = refl
    by None (row ∷ some) = refl

names_extracted : (rows : List DynRow) (names : List (List ℕ)) → names_of (map (symbol_named rows) names) ≡ names
names_extracted rows names =
    map_map (λ (s : Symbol). s.name) (symbol_named rows) names ∙ map_itself (λ n. (symbol_named rows n).name) (named rows) names

pub wanted_rise : (library : LibraryRecord) → ascends (wanted_names (facts_of_library library)) ≡ true
unfolding visible_names
wanted_rise library =
    let names = visible_names library.rows in
    let up : ascends names ≡ true = in_order_ascends (map (λ (row : DynRow). row.name) library.rows) in
    let all : ascends (names_of (map (symbol_named library.rows) names)) ≡ true = subst (λ ns. ascends ns ≡ true) (sym (names_extracted library.rows names)) up in
    subst (λ ws. ascends (map (λ (w : List ℕ × Bool). w.0) ws) ≡ true) (filter_map_by wanted_place (symbol_named library.rows) (wanted_name library.rows) (place_named library.rows) names) (wanted_ascend (map (symbol_named library.rows) names) all)
