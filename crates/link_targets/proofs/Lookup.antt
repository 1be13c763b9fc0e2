-- The position of a name, among rows that stand in byte order of distinct names.
use Rattle.std.proofs.Common.{◌≡◌, ℕ, zero, suc, ◌+◌, ◌<◌, Bool, true, false, List, [], ◌∷◌, length, map, get_or, Some, None, Err, refl, sym, ap, ◌∙◌, subst, inl, inr, arith}
use Rattle.std.specs.declared.cmp.Ordering.{Ordering}
use Rattle.std.specs.declared.cmp.Ordering.TheVariants.{Equal}
use Rattle.std.specs.Prelude.{position, unwrap_or}
use Rattle.std.specs.Ordering.{nat_cmp, is_eq}
use Rattle.std.specs.Cmp.Lexicographic.{slice_cmp, nat_list_cmp_total, texts_ties}
use Rattle.std.specs.List.{All, list_all}
use Rattle.std.specs.List.Sorted.{IsSortedBy, IsBinarySearchResult}
use Rattle.std.proofs.lemmas.Bool.{and_parts, cases_lt}
use Rattle.std.proofs.lemmas.List.Elements.{All-tail}
use Rattle.std.proofs.lemmas.List.Sorted.{searchable_from_sorted}
use Rattle.ifs_interface.specs.Triple.{same_name}
use Rattle.ifs_interface.specs.Interface.{comes_before, ascends}
use Rattle.ifs_interface.proofs.Names.{names_order, same_name-is, before_differs}
use Rattle.link_core.specs.declared.resolution.NameRow.{NameRow}

abbrev has_name : List ℕ → NameRow → Bool
has_name name row = same_name row.name name

abbrev names : List NameRow → List (List ℕ)
names rows = map (λ row. row.name) rows

abbrev against : List ℕ → NameRow → Ordering
against name row = slice_cmp nat_cmp row.name name

-- ---- names that ascend

differs_later : (n m name : List ℕ) → comes_before n m ≡ true → same_name m name ≡ true → same_name n name ≡ false
differs_later n m name lt same = subst (λ k. same_name n k ≡ false) (same_name-is m name same) (before_differs n m lt)

later_at : (n : List ℕ) (rows : List NameRow) (k : ℕ) (d : NameRow) → list_all (comes_before n) (names rows) ≡ true → k < length rows → comes_before n (get_or rows k d).name ≡ true
later_at n [] k d all lt = absurd (omega arith)
later_at n (s ∷ ss) zero d all lt = (and_parts (comes_before n s.name) (list_all (comes_before n) (names ss)) all).0
later_at n (s ∷ ss) (suc k) d all lt =
    later_at n ss k d (and_parts (comes_before n s.name) (list_all (comes_before n) (names ss)) all).1 (omega arith)

sorted_from_ascends : (rows : List NameRow) → ascends (names rows) ≡ true → IsSortedBy (λ a b. comes_before a.name b.name) rows
sorted_from_ascends [] up k d low lt = absurd (omega arith)
sorted_from_ascends (s ∷ ss) up zero d low lt =
    let parts = and_parts (list_all (comes_before s.name) (names ss)) (ascends (names ss)) up in
    names_order.one_way s.name (get_or ss 0 d).name (later_at s.name ss 0 d parts.0 (omega arith))
sorted_from_ascends (s ∷ ss) up (suc k) d low lt =
    let parts = and_parts (list_all (comes_before s.name) (names ss)) (ascends (names ss)) up in
    let e : suc k + 1 ≡ suc (k + 1) = omega arith in
    let P : ℕ → Type 0 = λ n. comes_before (get_or (s ∷ ss) n d).name (get_or ss k d).name ≡ false in
    subst P (sym e) (sorted_from_ascends ss parts.1 k d (omega arith) (omega arith))

-- ---- the row at a place that has the name is the first

position_here : {A : Type 0} (p : A → Bool) (x : A) (xs : List A) → p x ≡ true → position p (x ∷ xs) ≡ Some 0
position_here p x xs h = grind (arith, h)

position_next : {A : Type 0} (p : A → Bool) (x : A) (xs : List A) (n : ℕ) → p x ≡ false → position p xs ≡ Some n → position p (x ∷ xs) ≡ Some (suc n)
position_next p x xs n h e = grind (arith, h, e)

position_none : {A : Type 0} (p : A → Bool) (x : A) (xs : List A) → p x ≡ false → position p xs ≡ None → position p (x ∷ xs) ≡ None
position_none p x xs h e = grind (arith, h, e)

found_at : (name : List ℕ) (rows : List NameRow) (place : ℕ) (d : NameRow) → ascends (names rows) ≡ true → place < length rows → same_name (get_or rows place d).name name ≡ true → position (has_name name) rows ≡ Some place
found_at name [] place d up lt same = absurd (omega arith)
found_at name (s ∷ ss) zero d up lt same = position_here (has_name name) s ss same
found_at name (s ∷ ss) (suc k) d up lt same =
    let parts = and_parts (list_all (comes_before s.name) (names ss)) (ascends (names ss)) up in
    let past = differs_later s.name (get_or ss k d).name name (later_at s.name ss k d parts.0 (omega arith)) same in
    position_next (has_name name) s ss k past (found_at name ss k d parts.1 (omega arith) same)

none_found : (name : List ℕ) (rows : List NameRow) → All (λ s. has_name name s ≡ false) rows → position (has_name name) rows ≡ None
none_found name [] all = refl
none_found name (s ∷ ss) all =
    position_none (has_name name) s ss (all 0 s (omega arith)) (none_found name ss (All-tail (λ s. has_name name s ≡ false) s ss all))

-- ---- what the search answers

abbrev place_in : List ℕ → List NameRow → ℕ
place_in name rows = unwrap_or (position (has_name name) rows) 0

found : (name : List ℕ) (rows : List NameRow) (place : ℕ) → ascends (names rows) ≡ true → place < length rows → ((d : NameRow) → against name (get_or rows place d) ≡ Equal) → place ≡ place_in name rows
found name [] place up lt equal = absurd (omega arith)
found name (r ∷ rs) place up lt equal =
    let same : same_name (get_or (r ∷ rs) place r).name name ≡ true = texts_ties (get_or (r ∷ rs) place r).name name ∙ ap is_eq (equal r) in
    sym (ap (λ p. unwrap_or p 0) (found_at name (r ∷ rs) place r up lt same))

missed : (name : List ℕ) (rows : List NameRow) (place : ℕ) → ascends (names rows) ≡ true → IsBinarySearchResult (against name) rows (Err place) → 0 ≡ place_in name rows
missed name rows place up h =
    let split = h (searchable_from_sorted nat_list_cmp_total (λ (s : NameRow). s.name) rows name (sorted_from_ascends rows up)) in
    let each : All (λ s. has_name name s ≡ false) rows = λ k d lt. elim (cases_lt k place) as (λ _. has_name name (get_or rows k d) ≡ false) [
      | inl before ↦ texts_ties (get_or rows k d).name name ∙ ap is_eq (split.0 k d (omega arith) before)
      | inr behind ↦ texts_ties (get_or rows k d).name name ∙ ap is_eq (split.1 k d behind lt)
    ] in
    sym (ap (λ p. unwrap_or p 0) (none_found name rows each))

pub search_found : (name : List ℕ) (all rows : List NameRow) (place : ℕ) → rows ≡ all → ascends (names all) ≡ true → place < length rows → ((d : NameRow) → against name (get_or rows place d) ≡ Equal) → place ≡ place_in name all
search_found name all rows place e up lt equal =
    let P : List NameRow → Type 0 = λ rs. place ≡ place_in name rs in
    let Q : List NameRow → Type 0 = λ rs. ascends (names rs) ≡ true in
    subst P e (found name rows place (subst Q (sym e) up) lt equal)

pub search_missed : (name : List ℕ) (all rows : List NameRow) (place : ℕ) → rows ≡ all → ascends (names all) ≡ true → IsBinarySearchResult (against name) rows (Err place) → 0 ≡ place_in name all
search_missed name all rows place e up h =
    let P : List NameRow → Type 0 = λ rs. 0 ≡ place_in name rs in
    let Q : List NameRow → Type 0 = λ rs. ascends (names rs) ≡ true in
    subst P e (missed name rows place (subst Q (sym e) up) h)
