-- The symbol of a name, among symbols that stand in byte order of distinct names.
use Rattle.std.proofs.Common.{◌≡◌, ℕ, zero, suc, ◌+◌, ◌<◌, Bool, true, false, not, ◌||◌, cond, List, [], ◌∷◌, length, map, get_or, Option, Some, None, Err, refl, sym, ap, ◌∙◌, subst, inl, inr, arith}
use Rattle.std.specs.declared.cmp.Ordering.{Ordering}
use Rattle.std.specs.declared.cmp.Ordering.TheVariants.{Less, Equal, Greater}
use Rattle.std.specs.Ordering.{nat_cmp, is_eq}
use Rattle.std.specs.Cmp.Lexicographic.{slice_cmp, nat_list_cmp_total, texts_ties}
use Rattle.std.specs.List.{All, find, filter_map, list_all, cons_option}
use Rattle.std.specs.List.Sorted.{IsSortedBy, IsBinarySearchResult}
use Rattle.std.specs.Option.{option_map}
use Rattle.std.proofs.lemmas.Bool.{false≢true, false_from_ne_true, and_parts, and_from, cases_lt}
use Rattle.std.proofs.lemmas.List.Elements.{All-tail}
use Rattle.std.proofs.lemmas.List.Sorted.{searchable_from_sorted}
use Rattle.ifs_interface.specs.declared.symbol.Symbol.{Symbol}
use Rattle.ifs_interface.specs.Triple.{same_name}
use Rattle.ifs_interface.specs.Interface.{comes_before, ascends, names_of}
use Rattle.ifs_interface.specs.Facts.{symbol_in, strength_at, together, wanted_among, wanted_place}
use Rattle.ifs_interface.proofs.Names.{names_order, same_name-is, same_name-itself, before_differs}

abbrev pub has_name : List ℕ → Symbol → Bool
has_name name symbol = same_name symbol.name name

-- ---- names that ascend

differs_later : (n m name : List ℕ) → comes_before n m ≡ true → same_name m name ≡ true → same_name n name ≡ false
differs_later n m name lt same = subst (λ k. same_name n k ≡ false) (same_name-is m name same) (before_differs n m lt)

later_at : (n : List ℕ) (symbols : List Symbol) (k : ℕ) (d : Symbol) → list_all (comes_before n) (names_of symbols) ≡ true → k < length symbols → comes_before n (get_or symbols k d).name ≡ true
later_at n [] k d all lt = absurd (omega arith)
later_at n (s ∷ ss) zero d all lt = (and_parts (comes_before n s.name) (list_all (comes_before n) (names_of ss)) all).0
later_at n (s ∷ ss) (suc k) d all lt =
    later_at n ss k d (and_parts (comes_before n s.name) (list_all (comes_before n) (names_of ss)) all).1 (omega arith)

sorted_from_ascends : (symbols : List Symbol) → ascends (names_of symbols) ≡ true → IsSortedBy (λ a b. comes_before a.name b.name) symbols
sorted_from_ascends [] up k d low lt = absurd (omega arith)
sorted_from_ascends (s ∷ ss) up zero d low lt =
    let parts = and_parts (list_all (comes_before s.name) (names_of ss)) (ascends (names_of ss)) up in
    names_order.one_way s.name (get_or ss 0 d).name (later_at s.name ss 0 d parts.0 (omega arith))
sorted_from_ascends (s ∷ ss) up (suc k) d low lt =
    let parts = and_parts (list_all (comes_before s.name) (names_of ss)) (ascends (names_of ss)) up in
    let e : suc k + 1 ≡ suc (k + 1) = omega arith in
    let P : ℕ → Type 0 = λ n. comes_before (get_or (s ∷ ss) n d).name (get_or ss k d).name ≡ false in
    subst P (sym e) (sorted_from_ascends ss parts.1 k d (omega arith) (omega arith))

-- ---- the symbol at a place that has the name is the one

found_at : (name : List ℕ) (symbols : List Symbol) (place : ℕ) (d : Symbol) → ascends (names_of symbols) ≡ true → place < length symbols → same_name (get_or symbols place d).name name ≡ true → find (has_name name) symbols ≡ Some (get_or symbols place d)
found_at name [] place d up lt same = absurd (omega arith)
found_at name (s ∷ ss) zero d up lt same = ap (λ t. cond t (Some s) (find (has_name name) ss)) same
found_at name (s ∷ ss) (suc k) d up lt same =
    let parts = and_parts (list_all (comes_before s.name) (names_of ss)) (ascends (names_of ss)) up in
    let past = differs_later s.name (get_or ss k d).name name (later_at s.name ss k d parts.0 (omega arith)) same in
    ap (λ t. cond t (Some s) (find (has_name name) ss)) past ∙ found_at name ss k d parts.1 (omega arith) same

none_found : (name : List ℕ) (symbols : List Symbol) → All (λ s. has_name name s ≡ false) symbols → find (has_name name) symbols ≡ None
none_found name [] all = refl
none_found name (s ∷ ss) all =
    ap (λ t. cond t (Some s) (find (has_name name) ss)) (all 0 s (omega arith)) ∙ none_found name ss (All-tail (λ s. has_name name s ≡ false) s ss all)

-- ---- what the search answers

abbrev against : List ℕ → Symbol → Ordering
against name symbol = slice_cmp nat_cmp symbol.name name

equal_same : (a b : List ℕ) → slice_cmp nat_cmp a b ≡ Equal → same_name a b ≡ true
equal_same a b e = texts_ties a b ∙ ap is_eq e

less_differs : (a b : List ℕ) → slice_cmp nat_cmp a b ≡ Less → same_name a b ≡ false
less_differs a b e = texts_ties a b ∙ ap is_eq e

greater_differs : (a b : List ℕ) → slice_cmp nat_cmp a b ≡ Greater → same_name a b ≡ false
greater_differs a b e = texts_ties a b ∙ ap is_eq e

pub search_found : (name : List ℕ) (symbols : List Symbol) (place : ℕ) (s : Symbol) → ascends (names_of symbols) ≡ true → place < length symbols → ((d : Symbol) → against name (get_or symbols place d) ≡ Equal) → s ≡ get_or symbols place s → Some s ≡ symbol_in symbols name
search_found name symbols place s up lt equal is =
    sym (found_at name symbols place s up lt (equal_same (get_or symbols place s).name name (equal s)) ∙ ap Some (sym is))

pub search_missed : (name : List ℕ) (symbols : List Symbol) (place : ℕ) → ascends (names_of symbols) ≡ true → IsBinarySearchResult (against name) symbols (Err place) → None ≡ symbol_in symbols name
search_missed name symbols place up missed =
    let split = missed (searchable_from_sorted nat_list_cmp_total (λ (s : Symbol). s.name) symbols name (sorted_from_ascends symbols up)) in
    let each : All (λ s. has_name name s ≡ false) symbols = λ k d lt. elim (cases_lt k place) as (λ _. has_name name (get_or symbols k d) ≡ false) [
      | inl before ↦ less_differs (get_or symbols k d).name name (split.0 k d (omega arith) before)
      | inr behind ↦ greater_differs (get_or symbols k d).name name (split.1 k d behind lt)
    ] in
    sym (none_found name symbols each)

-- ---- the wanted names

strengths : List ℕ → List Symbol → List Bool
strengths name symbols = filter_map (strength_at name) (map wanted_place symbols)

no_strength : (name : List ℕ) (s : Symbol) → same_name s.name name ≡ false → strength_at name (wanted_place s) ≡ None
no_strength name s differs = by s.undefined
  where
    by : (u : Bool) → strength_at name (cond u (Some (s.name, not s.weak)) None) ≡ None
    by true = ap (λ t. cond t (Some (not s.weak)) None) differs
    by false = refl

later_differs : (n name : List ℕ) (s : Symbol) → same_name n name ≡ true → comes_before n s.name ≡ true → same_name s.name name ≡ false
later_differs n name s same before =
    let lt : comes_before name s.name ≡ true = subst (λ k. comes_before k s.name ≡ true) (same_name-is n name same) before in
    false_from_ne_true (same_name s.name name) (λ e. false≢true (sym (before_differs name s.name lt) ∙ subst (λ k. same_name name k ≡ true) (sym (same_name-is s.name name e)) (same_name-itself name)))

none_strong : (n name : List ℕ) (symbols : List Symbol) → same_name n name ≡ true → list_all (comes_before n) (names_of symbols) ≡ true → strengths name symbols ≡ []
unfolding strengths
none_strong n name [] same all = refl
none_strong n name (s ∷ ss) same all =
    let parts = and_parts (comes_before n s.name) (list_all (comes_before n) (names_of ss)) all in
    ap (λ o. cons_option o (strengths name ss)) (no_strength name s (later_differs n name s same parts.0)) ∙ none_strong n name ss same parts.1

abbrev looked_up : List ℕ → List (List ℕ × Bool) → Option Bool
looked_up name wanted = option_map (λ w. w.1) (find (λ w. same_name w.0 name) wanted)

-- of names behind it none is wanted
none_wanted : (n name : List ℕ) (symbols : List Symbol) → same_name n name ≡ true → list_all (comes_before n) (names_of symbols) ≡ true → looked_up name (filter_map wanted_place symbols) ≡ None
none_wanted n name [] same all = refl
none_wanted n name (s ∷ ss) same all =
    let parts = and_parts (comes_before n s.name) (list_all (comes_before n) (names_of ss)) all in
    by s.undefined (later_differs n name s same parts.0) (none_wanted n name ss same parts.1)
  where
    by : (u : Bool) → same_name s.name name ≡ false → looked_up name (filter_map wanted_place ss) ≡ None → looked_up name (cons_option (cond u (Some (s.name, not s.weak)) None) (filter_map wanted_place ss)) ≡ None
    by true differs rest = ap (λ t. option_map (λ w. w.1) (cond t (Some (s.name, not s.weak)) (find (λ w. same_name w.0 name) (filter_map wanted_place ss)))) differs ∙ rest
    by false differs rest = rest

only_one : (name : List ℕ) (s : Symbol) (behind : List (List ℕ × Bool)) → same_name s.name name ≡ true → looked_up name behind ≡ None → together (cons_option (strength_at name (wanted_place s)) []) ≡ looked_up name (cons_option (wanted_place s) behind)
only_one name s behind same none = by s.undefined
  where
    or_false : (b : Bool) → (b || false) ≡ b
    or_false true = refl
    or_false false = refl

    by : (u : Bool) → together (cons_option (strength_at name (cond u (Some (s.name, not s.weak)) None)) []) ≡ looked_up name (cons_option (cond u (Some (s.name, not s.weak)) None) behind)
    by true =
        ap (λ t. together (cons_option (cond t (Some (not s.weak)) None) [])) same
        ∙ ap (λ b. Some b) (or_false (not s.weak))
        ∙ sym (ap (λ t. option_map (λ w. w.1) (cond t (Some (s.name, not s.weak)) (find (λ w. same_name w.0 name) behind))) same)
    by false = sym none

past_one : (name : List ℕ) (s : Symbol) (behind : List (List ℕ × Bool)) → same_name s.name name ≡ false → looked_up name (cons_option (wanted_place s) behind) ≡ looked_up name behind
past_one name s behind differs = by s.undefined
  where
    by : (u : Bool) → looked_up name (cons_option (cond u (Some (s.name, not s.weak)) None) behind) ≡ looked_up name behind
    by true = ap (λ t. option_map (λ w. w.1) (cond t (Some (s.name, not s.weak)) (find (λ w. same_name w.0 name) behind))) differs
    by false = refl

wanted_is : (name : List ℕ) (symbols : List Symbol) → ascends (names_of symbols) ≡ true → together (strengths name symbols) ≡ looked_up name (filter_map wanted_place symbols)
unfolding strengths
wanted_is name [] up = refl
wanted_is name (s ∷ ss) up =
    let parts = and_parts (list_all (comes_before s.name) (names_of ss)) (ascends (names_of ss)) up in
    by (same_name s.name name) refl parts.0 (wanted_is name ss parts.1)
  where
    by : (t : Bool) → same_name s.name name ≡ t → list_all (comes_before s.name) (names_of ss) ≡ true → together (strengths name ss) ≡ looked_up name (filter_map wanted_place ss) → together (cons_option (strength_at name (wanted_place s)) (strengths name ss)) ≡ looked_up name (cons_option (wanted_place s) (filter_map wanted_place ss))
    by true e later rest =
        ap (λ bs. together (cons_option (strength_at name (wanted_place s)) bs)) (none_strong s.name name ss e later)
        ∙ only_one name s (filter_map wanted_place ss) e (none_wanted s.name name ss e later)
    by false e later rest =
        ap (λ o. together (cons_option o (strengths name ss))) (no_strength name s e) ∙ rest ∙ sym (past_one name s (filter_map wanted_place ss) e)

pub wanted_are : (symbols : List Symbol) (name : List ℕ) → ascends (names_of symbols) ≡ true → wanted_among (map wanted_place symbols) name ≡ looked_up name (filter_map wanted_place symbols)
unfolding wanted_among strengths
wanted_are symbols name up = wanted_is name symbols up

-- ---- their order

all_wanted : (p : List ℕ → Bool) (symbols : List Symbol) → list_all p (names_of symbols) ≡ true → list_all p (map (λ w. w.0) (filter_map wanted_place symbols)) ≡ true
all_wanted p [] h = refl
all_wanted p (s ∷ ss) h =
    let parts = and_parts (p s.name) (list_all p (names_of ss)) h in
    by s.undefined parts.0 (all_wanted p ss parts.1)
  where
    by : (u : Bool) → p s.name ≡ true → list_all p (map (λ w. w.0) (filter_map wanted_place ss)) ≡ true → list_all p (map (λ w. w.0) (cons_option (cond u (Some (s.name, not s.weak)) None) (filter_map wanted_place ss))) ≡ true
    by true first rest = and_from (p s.name) (list_all p (map (λ w. w.0) (filter_map wanted_place ss))) first rest
    by false first rest = rest

pub wanted_ascend : (symbols : List Symbol) → ascends (names_of symbols) ≡ true → ascends (map (λ w. w.0) (filter_map wanted_place symbols)) ≡ true
wanted_ascend [] up = refl
wanted_ascend (s ∷ ss) up =
    let parts = and_parts (list_all (comes_before s.name) (names_of ss)) (ascends (names_of ss)) up in
    by s.undefined (all_wanted (comes_before s.name) ss parts.0) (wanted_ascend ss parts.1)
  where
    names : List (List ℕ)
    names = map (λ w. w.0) (filter_map wanted_place ss)

    by : (u : Bool) → list_all (comes_before s.name) names ≡ true → ascends names ≡ true → ascends (map (λ w. w.0) (cons_option (cond u (Some (s.name, not s.weak)) None) (filter_map wanted_place ss))) ≡ true
    by true later rest = and_from (list_all (comes_before s.name) names) (ascends names) later rest
    by false later rest = rest
