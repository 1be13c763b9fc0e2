-- The places of the rows that define their name, in byte order of the names, tell what each name is.
use Rattle.std.proofs.Common.{◌≡◌, ℕ, zero, suc, ◌+◌, ◌<◌, Bool, true, false, not, cond, List, [], ◌∷◌, length, map, filter, get_or, Option, Some, None, refl, sym, ap, ◌∙◌, subst, arith}
use Rattle.std.specs.List.{find, list_all, cons_option, slice_get}
use Rattle.std.specs.Option.{option_map}
use Rattle.std.proofs.lemmas.Bool.{and_parts, and_from, lt-ltb, not-true}
use Rattle.std.proofs.lemmas.Option.{slice_get_within}
use Rattle.ifs_interface.specs.declared.row.DynRow.{DynRow}
use Rattle.ifs_interface.specs.Interface.{comes_before}
use Rattle.ifs_interface.specs.Extracted.{is_defined, rows_named}
use Rattle.ifs_interface.specs.Facts.{fact_of_type, defined_in}
use Rattle.ifs_interface.proofs.Names.{rises, rises-from_sorted}
use Rattle.elf_dyn.specs.ByName.{are_places, rows_at, AreInNameOrder, IsSortedByName, IsIndex}
use Rattle.elf_dyn.specs.Found.{passes, is_defined_at}
use Rattle.elf_dyn.proofs.RankedOrder.{is_named}

abbrev names : List DynRow → List (List ℕ)
names rows = map (λ row. row.name) rows

-- ---- places of rows that define their name

defined_rows : (rows : List DynRow) (places : List ℕ) → rows_at rows (filter (is_defined_at rows) places) ≡ filter is_defined (rows_at rows places)
defined_rows rows [] = refl
defined_rows rows (p ∷ ps) = by (slice_get rows p) refl (defined_rows rows ps)
  where
    others : List ℕ
    others = filter (is_defined_at rows) ps

    two : (row : DynRow) (t : Bool) → slice_get rows p ≡ Some row → rows_at rows others ≡ filter is_defined (rows_at rows ps) → rows_at rows (cond t (p ∷ others) others) ≡ cond t (row ∷ filter is_defined (rows_at rows ps)) (filter is_defined (rows_at rows ps))
    two row true e rest = ap (λ o. cons_option o (rows_at rows others)) e ∙ ap (λ xs. row ∷ xs) rest
    two row false e rest = rest

    by : (o : Option DynRow) → slice_get rows p ≡ o → rows_at rows others ≡ filter is_defined (rows_at rows ps) → rows_at rows (cond (passes is_defined o) (p ∷ others) others) ≡ filter is_defined (cons_option o (rows_at rows ps))
    by None e rest = rest
    by (Some row) e rest = two row (is_defined row) e rest

defined_are_places : (rows : List DynRow) (places : List ℕ) → are_places rows (filter (is_defined_at rows) places) ≡ true
defined_are_places rows [] = refl
defined_are_places rows (p ∷ ps) = by (slice_get rows p) refl (defined_are_places rows ps)
  where
    others : List ℕ
    others = filter (is_defined_at rows) ps

    two : (row : DynRow) (t : Bool) → slice_get rows p ≡ Some row → are_places rows others ≡ true → are_places rows (cond t (p ∷ others) others) ≡ true
    two row true e rest = and_from _ _ (lt-ltb p (length rows) (slice_get_within rows p row e)) rest
    two row false e rest = rest

    by : (o : Option DynRow) → slice_get rows p ≡ o → are_places rows others ≡ true → are_places rows (cond (passes is_defined o) (p ∷ others) others) ≡ true
    by None e rest = rest
    by (Some row) e rest = two row (is_defined row) e rest

-- ---- a filter keeps the order

kept_all : (q : List ℕ → Bool) (rows : List DynRow) → list_all q (names rows) ≡ true → list_all q (names (filter is_defined rows)) ≡ true
kept_all q [] h = refl
kept_all q (row ∷ rows) h =
    let parts = and_parts (q row.name) (list_all q (names rows)) h in
    by (is_defined row) parts.0 (kept_all q rows parts.1)
  where
    by : (t : Bool) → q row.name ≡ true → list_all q (names (filter is_defined rows)) ≡ true → list_all q (names (cond t (row ∷ filter is_defined rows) (filter is_defined rows))) ≡ true
    by true here rest = and_from (q row.name) _ here rest
    by false here rest = rest

kept_rising : (rows : List DynRow) → rises (names rows) ≡ true → rises (names (filter is_defined rows)) ≡ true
kept_rising [] up = refl
kept_rising (row ∷ rows) up =
    let parts = and_parts (list_all (λ m. not (comes_before m row.name)) (names rows)) (rises (names rows)) up in
    by (is_defined row) (kept_all (λ m. not (comes_before m row.name)) rows parts.0) (kept_rising rows parts.1)
  where
    by : (t : Bool) → list_all (λ m. not (comes_before m row.name)) (names (filter is_defined rows)) ≡ true → rises (names (filter is_defined rows)) ≡ true → rises (names (cond t (row ∷ filter is_defined rows) (filter is_defined rows))) ≡ true
    by true here rest = and_from _ _ here rest
    by false here rest = rest

not_before_at : (n : List ℕ) (rows : List DynRow) (k : ℕ) (d : DynRow) → list_all (λ m. not (comes_before m n)) (names rows) ≡ true → k < length rows → comes_before (get_or rows k d).name n ≡ false
not_before_at n [] k d all lt = absurd (omega arith)
not_before_at n (row ∷ rows) zero d all lt = not-true (comes_before row.name n) (and_parts (not (comes_before row.name n)) (list_all (λ m. not (comes_before m n)) (names rows)) all).0
not_before_at n (row ∷ rows) (suc k) d all lt =
    not_before_at n rows k d (and_parts (not (comes_before row.name n)) (list_all (λ m. not (comes_before m n)) (names rows)) all).1 (omega arith)

in_order : (rows : List DynRow) → rises (names rows) ≡ true → AreInNameOrder rows
in_order [] up k d low lt = absurd (omega arith)
in_order (row ∷ rows) up zero d low lt =
    let parts = and_parts (list_all (λ m. not (comes_before m row.name)) (names rows)) (rises (names rows)) up in
    not_before_at row.name rows 0 d parts.0 (omega arith)
in_order (row ∷ rows) up (suc k) d low lt =
    let parts = and_parts (list_all (λ m. not (comes_before m row.name)) (names rows)) (rises (names rows)) up in
    let e : suc k + 1 ≡ suc (k + 1) = omega arith in
    let P : ℕ → Type 0 = λ n. comes_before (get_or (row ∷ rows) n d).name (get_or rows k d).name ≡ false in
    subst P (sym e) (in_order rows parts.1 k d (omega arith) (omega arith))

filter_filter : (p q : DynRow → Bool) (rows : List DynRow) → filter p (filter q rows) ≡ filter q (filter p rows)
filter_filter p q [] = refl
filter_filter p q (row ∷ rows) = by (p row) (q row) refl refl (filter_filter p q rows)
  where
    by : (s t : Bool) → p row ≡ s → q row ≡ t → filter p (filter q rows) ≡ filter q (filter p rows) → filter p (cond t (row ∷ filter q rows) (filter q rows)) ≡ filter q (cond s (row ∷ filter p rows) (filter p rows))
    by true true e f rest = ap (λ b. cond b (row ∷ filter p (filter q rows)) (filter p (filter q rows))) e ∙ ap (λ xs. row ∷ xs) rest ∙ sym (ap (λ b. cond b (row ∷ filter q (filter p rows)) (filter q (filter p rows))) f)
    by true false e f rest = rest ∙ sym (ap (λ b. cond b (row ∷ filter q (filter p rows)) (filter q (filter p rows))) f)
    by false true e f rest = ap (λ b. cond b (row ∷ filter p (filter q rows)) (filter p (filter q rows))) e ∙ rest
    by false false e f rest = rest

-- the places of the rows that define their name are an index of these rows
pub indexed : (rows : List DynRow) (by_name defined : List ℕ) → IsSortedByName rows (rows_at rows by_name) → defined ≡ filter (is_defined_at rows) by_name → IsIndex rows (filter is_defined rows) defined
indexed rows by_name defined sorted is =
    let own : rows_at rows defined ≡ filter is_defined (rows_at rows by_name) = ap (rows_at rows) is ∙ defined_rows rows by_name in
    let up = in_order (filter is_defined (rows_at rows by_name)) (kept_rising (rows_at rows by_name) (rises-from_sorted (λ (row : DynRow). row.name) (rows_at rows by_name) sorted.rising)) in
    record {
      are_places = ap (are_places rows) is ∙ defined_are_places rows by_name;
      sorted = record {
        rising = subst AreInNameOrder (sym own) up;
        same_rows = λ name. ap (rows_named name) own ∙ filter_filter (is_named name) is_defined (rows_at rows by_name) ∙ ap (filter is_defined) (sorted.same_rows name) ∙ filter_filter is_defined (is_named name) rows;
      };
    }

-- ---- the fact of a name

find_filter : (p q : DynRow → Bool) (rows : List DynRow) → find p (filter q rows) ≡ find q (filter p rows)
find_filter p q [] = refl
find_filter p q (row ∷ rows) = by (p row) (q row) refl refl (find_filter p q rows)
  where
    by : (s t : Bool) → p row ≡ s → q row ≡ t → find p (filter q rows) ≡ find q (filter p rows) → find p (cond t (row ∷ filter q rows) (filter q rows)) ≡ find q (cond s (row ∷ filter p rows) (filter p rows))
    by true true e f rest = ap (λ b. cond b (Some row) (find p (filter q rows))) e ∙ sym (ap (λ b. cond b (Some row) (find q (filter p rows))) f)
    by true false e f rest = rest ∙ sym (ap (λ b. cond b (Some row) (find q (filter p rows))) f)
    by false true e f rest = ap (λ b. cond b (Some row) (find p (filter q rows))) e ∙ rest
    by false false e f rest = rest

find_first : (p : DynRow → Bool) (rows : List DynRow) → find p rows ≡ slice_get (filter p rows) 0
find_first p [] = refl
find_first p (row ∷ rows) = by (p row) (find_first p rows)
  where
    by : (t : Bool) → find p rows ≡ slice_get (filter p rows) 0 → cond t (Some row) (find p rows) ≡ slice_get (cond t (row ∷ filter p rows) (filter p rows)) 0
    by true rest = refl
    by false rest = rest

pub fact_is : (rows : List DynRow) (defined : List ℕ) (name : List ℕ) → IsIndex rows (filter is_defined rows) defined → option_map (λ (row : DynRow). fact_of_type row.kind) (find (is_named name) (rows_at rows defined)) ≡ defined_in rows name
unfolding defined_in
fact_is rows defined name is =
    ap (λ found. option_map (λ (row : DynRow). fact_of_type row.kind) found) (find_first (is_named name) (rows_at rows defined) ∙ ap (λ xs. slice_get xs 0) (is.sorted.same_rows name) ∙ sym (find_first (is_named name) (filter is_defined rows)) ∙ find_filter (is_named name) is_defined rows)
