-- A row of a name is found by the place before which all names come before it.
use Rattle.std.proofs.Common.{◌≡◌, ℕ, zero, suc, ◌<◌, ◌≤◌, Bool, true, false, not, cond, List, [], ◌∷◌, length, map, get_or, Some, None, inl, inr, refl, sym, ap, ◌∙◌, subst, arith}
use Rattle.std.specs.List.{find, list_all, cons_option, slice_get}
use Rattle.std.specs.List.Sorted.{IsPartitionedBy, IsPartitionPoint}
use Rattle.std.specs.Option.{option_and_then}
use Rattle.std.specs.Cmp.Lexicographic.{nat_list_cmp_total}
use Rattle.std.proofs.lemmas.Bool.{false≢true, and_parts, ltb-true, true_from_ne_false, cases_lt}
use Rattle.std.proofs.lemmas.List.Sorted.{ranks_by, sorted_far}
use Rattle.std.proofs.lemmas.Option.{slice_get-get_or, slice_get_past, slice_get_cases}
use Rattle.ifs_interface.specs.declared.row.DynRow.{DynRow}
use Rattle.ifs_interface.specs.Interface.{comes_before}
use Rattle.ifs_interface.proofs.Names.{names_order, before_differs, before_of_rest, rises, rises-from_sorted}
use Rattle.ifs_interface.proofs.NameOrder.{after_differs, before_later}
use Rattle.elf_dyn.specs.ByName.{are_places, rows_at, AreInNameOrder}
use Rattle.elf_dyn.specs.Found.{passes, comes_before_at, if_named}
use Rattle.elf_dyn.proofs.RankedOrder.{is_named}

-- ---- the row at a place of places

a_row : DynRow
a_row = record { name = []; binding = 1; kind = 0; shndx = 0; value = 0; size = 0 }

-- the first place is one of a row
there_first : (rows : List DynRow) (p : ℕ) (ps : List ℕ) → are_places rows (p ∷ ps) ≡ true → slice_get rows p ≡ Some (get_or rows p a_row)
there_first rows p ps are = slice_get-get_or rows p a_row (ltb-true p (length rows) (and_parts _ (are_places rows ps) are).0)

first_of : (rows : List DynRow) (p : ℕ) (ps : List ℕ) → are_places rows (p ∷ ps) ≡ true → rows_at rows (p ∷ ps) ≡ get_or rows p a_row ∷ rows_at rows ps
first_of rows p ps are = ap (λ o. cons_option o (rows_at rows ps)) (there_first rows p ps are)

pub at_place : (rows : List DynRow) (places : List ℕ) (k : ℕ) → are_places rows places ≡ true → slice_get (rows_at rows places) k ≡ option_and_then (slice_get rows) (slice_get places k)
at_place rows [] k are = refl
at_place rows (p ∷ ps) zero are = ap (λ xs. slice_get xs 0) (first_of rows p ps are) ∙ sym (there_first rows p ps are)
at_place rows (p ∷ ps) (suc k) are =
    ap (λ xs. slice_get xs (suc k)) (first_of rows p ps are) ∙ at_place rows ps k (and_parts _ (are_places rows ps) are).1

test_at : (test : DynRow → Bool) (rows : List DynRow) (places : List ℕ) (k d : ℕ) → are_places rows places ≡ true → k < length places → passes test (slice_get (rows_at rows places) k) ≡ passes test (slice_get rows (get_or places k d))
test_at test rows places k d are lt =
    ap (passes test) (at_place rows places k are ∙ ap (option_and_then (slice_get rows)) (slice_get-get_or places k d lt))

-- ---- names before a name stand in front

abbrev before_name : List ℕ → DynRow → Bool
before_name name row = comes_before row.name name

falls : (rows : List DynRow) (name : List ℕ) (i j : ℕ) → AreInNameOrder rows → i ≤ j → passes (before_name name) (slice_get rows j) ≡ true → passes (before_name name) (slice_get rows i) ≡ true
falls rows name i j up le h =
    elim (slice_get_cases rows j).1 as (λ _. passes (before_name name) (slice_get rows i) ≡ true) [
      | inl there ↦
          (let row = there.0 in
          let lt : i < length rows = omega (arith, there.1) in
          let first = get_or rows i row in
          let later : comes_before row.name first.name ≡ false = subst (λ (x : DynRow). comes_before x.name first.name ≡ false) there.3 (sorted_far (λ a b. comes_before a.name b.name) (ranks_by nat_list_cmp_total (λ (x : DynRow). x.name)) rows up i j row le there.1) in
          let own : comes_before row.name name ≡ true = sym (ap (passes (before_name name)) there.2) ∙ h in
          ap (passes (before_name name)) (slice_get-get_or rows i row lt)
          ∙ true_from_ne_false (comes_before first.name name) (λ no. false≢true (sym (names_order.chain row.name first.name name later no) ∙ own)))
      | inr past ↦ absurd (false≢true (sym (ap (passes (before_name name)) past.1) ∙ h))
    ]

pub partitioned : (rows : List DynRow) (places : List ℕ) (name : List ℕ) → AreInNameOrder (rows_at rows places) → are_places rows places ≡ true → IsPartitionedBy (comes_before_at rows name) places
partitioned rows places name up are i j d le lt h =
    sym (test_at (before_name name) rows places i d are (omega (arith, le, lt)))
    ∙ falls (rows_at rows places) name i j up le (test_at (before_name name) rows places j d are lt ∙ h)

-- ---- the first row that isn't before the name

abbrev names : List DynRow → List (List ℕ)
names rows = map (λ row. row.name) rows

none_behind : (name n : List ℕ) (rows : List DynRow) → comes_before name n ≡ true → list_all (λ m. not (comes_before m n)) (names rows) ≡ true → find (is_named name) rows ≡ None
none_behind name n [] lt all = refl
none_behind name n (row ∷ rows) lt all =
    let parts = and_parts (not (comes_before row.name n)) (list_all (λ m. not (comes_before m n)) (names rows)) all in
    ap (λ t. cond t (Some row) (find (is_named name) rows)) (after_differs name row.name (before_later name n row.name lt parts.0))
    ∙ none_behind name n rows lt parts.1

found : (name : List ℕ) (rows : List DynRow) (at : ℕ) → rises (names rows) ≡ true → ((k : ℕ) → k < at → passes (before_name name) (slice_get rows k) ≡ true) → passes (before_name name) (slice_get rows at) ≡ false → if_named name (slice_get rows at) ≡ find (is_named name) rows
found name [] at up before here = refl
found name (row ∷ rows) zero up before here = by (is_named name row) refl
  where
    by : (t : Bool) → is_named name row ≡ t → cond t (Some row) None ≡ cond t (Some row) (find (is_named name) rows)
    by true e = refl
    by false e =
        let parts = and_parts (list_all (λ m. not (comes_before m row.name)) (names rows)) (rises (names rows)) up in
        sym (none_behind name row.name rows (before_of_rest name row.name here e) parts.0)
found name (row ∷ rows) (suc at) up before here =
    let parts = and_parts (list_all (λ m. not (comes_before m row.name)) (names rows)) (rises (names rows)) up in
    found name rows at parts.1 (λ k lt. before (suc k) (omega (arith, lt))) here
    ∙ sym (ap (λ t. cond t (Some row) (find (is_named name) rows)) (before_differs row.name name (before 0 (omega arith))))

pub looked_up : (rows : List DynRow) (places : List ℕ) (name : List ℕ) (at : ℕ) → AreInNameOrder (rows_at rows places) → are_places rows places ≡ true → at ≤ length places → IsPartitionPoint (λ p. comes_before_at rows name p ≡ true) (λ p. comes_before_at rows name p ≡ false) places at → if_named name (option_and_then (slice_get rows) (slice_get places at)) ≡ find (is_named name) (rows_at rows places)
looked_up rows places name at up are within split =
    let sorted = rows_at rows places in
    let before : (k : ℕ) → k < at → passes (before_name name) (slice_get sorted k) ≡ true = λ k lt. test_at (before_name name) rows places k 0 are (omega (arith, lt, within)) ∙ split.0 k 0 (omega arith) lt in
    let here : passes (before_name name) (slice_get sorted at) ≡ false = elim (cases_lt at (length places)) as (λ _. passes (before_name name) (slice_get sorted at) ≡ false) [
      | inl lt ↦ test_at (before_name name) rows places at 0 are lt ∙ split.1 at 0 (omega arith) lt
      | inr past ↦ ap (passes (before_name name)) (at_place rows places at are ∙ ap (option_and_then (slice_get rows)) (slice_get_past places at past))
    ] in
    ap (if_named name) (sym (at_place rows places at are))
    ∙ found name sorted at (rises-from_sorted (λ (row : DynRow). row.name) sorted up) before here
