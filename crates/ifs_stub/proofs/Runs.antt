-- Rows in byte order of their names, taken by runs of one name.
use Rattle.std.proofs.Common.{◌≡◌, ℕ, zero, suc, ◌+◌, Bool, true, false, not, cond, List, [], ◌∷◌, ◌++◌, map, filter, take, drop, length, ◌<◌, ◌≤◌, refl, sym, ap, ◌∙◌, subst, arith}
use Rattle.std.specs.List.{list_all, find, prefix_len}
use Rattle.std.proofs.lemmas.Bool.{and_parts, and_from, not-true}
use Rattle.std.proofs.lemmas.List.{append-nil, take-append-drop, length-drop, drop-drop}
use Rattle.std.proofs.lemmas.List.Elements.{filter-append}
use Rattle.std.proofs.lemmas.List.Folds.{list_all-map}
use Rattle.std.proofs.lemmas.List.Sums.{prefix_len-le-length}
use Rattle.ifs_interface.specs.declared.row.DynRow.{DynRow}
use Rattle.ifs_interface.specs.declared.symbol.Symbol.{Symbol}
use Rattle.ifs_interface.specs.Triple.{same_name}
use Rattle.ifs_interface.specs.Interface.{comes_before}
use Rattle.ifs_interface.specs.Extracted.{insert_name, in_order, rows_named, visible_names, symbol_named, described, is_defined}
use Rattle.ifs_stub.specs.Rows.{run_length, symbol_of_run, symbols_by_name}
use Rattle.elf_dyn.proofs.RankedOrder.{is_named}
use Rattle.ifs_interface.proofs.Names.{same_name-is, same_name-itself, before_differs, before_of_rest, rises}
use Rattle.ifs_interface.proofs.Repeats.{list_all-weaker}
use Rattle.ifs_interface.proofs.NameOrder.{after_differs, before_later}
use Rattle.ifs_interface.proofs.Lists.{filter_all, filter_none, map_agree}
use Rattle.ifs_interface.proofs.InOrder.{all_in_order, inserted_first, inserted_again}

-- the row's name comes after the name
abbrev pub is_after : List ℕ → DynRow → Bool
is_after n row = comes_before n row.name

abbrev not_before : List ℕ → List ℕ → Bool
not_before n m = not (comes_before m n)

abbrev pub names : List DynRow → List (List ℕ)
names rows = map (λ row. row.name) rows

-- ---- the front that has a name, and what is behind it

front_named : (n : List ℕ) (rows : List DynRow) → list_all (is_named n) (take (prefix_len (is_named n) rows) rows) ≡ true
front_named n [] = refl
front_named n (row ∷ rows) = by (is_named n row) refl (front_named n rows)
  where
    by : (t : Bool) → is_named n row ≡ t → list_all (is_named n) (take (prefix_len (is_named n) rows) rows) ≡ true → list_all (is_named n) (take (cond t (1 + prefix_len (is_named n) rows) 0) (row ∷ rows)) ≡ true
    by true e rest = let one : 1 + prefix_len (is_named n) rows ≡ suc (prefix_len (is_named n) rows) = omega arith in rw one (and_from (is_named n row) (list_all (is_named n) (take (prefix_len (is_named n) rows) rows)) e rest)
    by false e rest = refl

behind_after : (n : List ℕ) (rows : List DynRow) → rises (names rows) ≡ true → list_all (not_before n) (names rows) ≡ true → list_all (is_after n) (drop (prefix_len (is_named n) rows) rows) ≡ true
behind_after n [] h g = refl
behind_after n (row ∷ rows) h g =
    let up = and_parts (list_all (not_before row.name) (names rows)) (rises (names rows)) h in
    let front = and_parts (not_before n row.name) (list_all (not_before n) (names rows)) g in
    by (is_named n row) refl up.0 front.0 (behind_after n rows up.1 front.1)
  where
    by : (t : Bool) → is_named n row ≡ t → list_all (not_before row.name) (names rows) ≡ true → not_before n row.name ≡ true → list_all (is_after n) (drop (prefix_len (is_named n) rows) rows) ≡ true → list_all (is_after n) (drop (cond t (1 + prefix_len (is_named n) rows) 0) (row ∷ rows)) ≡ true
    by true e up front rest = let one : 1 + prefix_len (is_named n) rows ≡ suc (prefix_len (is_named n) rows) = omega arith in rw one rest
    by false e up front rest =
        let here : is_after n row ≡ true = before_of_rest n row.name (not-true (comes_before row.name n) front) e in
        let each : list_all (λ later. not_before row.name later.name) rows ≡ true = sym (list_all-map (not_before row.name) (λ later. later.name) rows) ∙ up in
        and_from (is_after n row) (list_all (is_after n) rows) here (list_all-weaker (λ later. not_before row.name later.name) (is_after n) (λ later g. before_later n row.name later.name here g) rows each)

pub rises_behind : (k : ℕ) (rows : List DynRow) → rises (names rows) ≡ true → rises (names (drop k rows)) ≡ true
rises_behind zero rows h = h
rises_behind (suc k) [] h = h
rises_behind (suc k) (row ∷ rows) h = rises_behind k rows (and_parts (list_all (not_before row.name) (names rows)) (rises (names rows)) h).1

-- ---- a run of one name, and rows whose names come after it

-- their names in order: the name, and the names of what is behind
in_order_run : (n : List ℕ) (row : DynRow) (run others : List DynRow) → list_all (is_named n) (row ∷ run) ≡ true → list_all (is_after n) others ≡ true → in_order (names ((row ∷ run) ++ others)) ≡ n ∷ in_order (names others)
in_order_run n row [] others h g =
    let parts = and_parts (is_named n row) true h in
    let after : list_all (comes_before n) (in_order (names others)) ≡ true = all_in_order (comes_before n) (names others) (list_all-map (comes_before n) (λ r. r.name) others ∙ g) in
    ap (λ m. insert_name m (in_order (names others))) (same_name-is row.name n parts.0) ∙ inserted_first n (in_order (names others)) after
in_order_run n row (next ∷ run) others h g =
    let parts = and_parts (is_named n row) (list_all (is_named n) (next ∷ run)) h in
    ap (insert_name row.name) (in_order_run n next run others parts.1 g) ∙ ap (λ m. insert_name m (n ∷ in_order (names others))) (same_name-is row.name n parts.0) ∙ inserted_again n (in_order (names others))

-- the rows of the name are the run
pub rows_of_run : (n : List ℕ) (run others : List DynRow) → list_all (is_named n) run ≡ true → list_all (is_after n) others ≡ true → rows_named n (run ++ others) ≡ run
rows_of_run n run others h g =
    filter-append (is_named n) run others ∙ ap (λ xs. xs ++ filter (is_named n) others) (filter_all (is_named n) run h) ∙ ap (λ xs. run ++ xs) (filter_none (is_named n) (is_after n) (λ row e. after_differs n row.name e) others g) ∙ append-nil run

-- the rows of a later name are those behind the run
rows_of_later : (n m : List ℕ) (run others : List DynRow) → list_all (is_named n) run ≡ true → comes_before n m ≡ true → rows_named m (run ++ others) ≡ rows_named m others
rows_of_later n m run others h g =
    let differs : (row : DynRow) → is_named n row ≡ true → is_named m row ≡ false = λ row e. subst (λ k. same_name k m ≡ false) (sym (same_name-is row.name n e)) (before_differs n m g) in
    filter-append (is_named m) run others ∙ ap (λ xs. xs ++ filter (is_named m) others) (filter_none (is_named m) (is_named n) differs run h)

abbrev pub symbol_by : List ℕ → List DynRow → Symbol
symbol_by n rows = described n (find is_defined rows) rows

pub symbols_of_run : (row : DynRow) (run others : List DynRow) → list_all (is_named row.name) (row ∷ run) ≡ true → list_all (is_after row.name) others ≡ true → symbols_by_name ((row ∷ run) ++ others) ≡ symbol_of_run (row ∷ run) ∷ symbols_by_name others
unfolding visible_names symbol_named
symbols_of_run row run others h g =
    let n = row.name in
    let all = (row ∷ run) ++ others in
    let later : list_all (comes_before n) (in_order (names others)) ≡ true = all_in_order (comes_before n) (names others) (list_all-map (comes_before n) (λ r. r.name) others ∙ g) in
    ap (map (symbol_named all)) (in_order_run n row run others h g)
    ∙ ap (λ rows. symbol_by n rows ∷ map (symbol_named all) (in_order (names others))) (rows_of_run n (row ∷ run) others h g)
    ∙ ap (λ symbols. symbol_of_run (row ∷ run) ∷ symbols) (map_agree (symbol_named all) (symbol_named others) (comes_before n) (λ m e. ap (symbol_by m) (rows_of_later n m (row ∷ run) others h e)) (in_order (names others)) later)

-- ---- the first run of rows in order

first_is_named : (row : DynRow) (rows : List DynRow) → run_length (row ∷ rows) ≡ suc (prefix_len (is_named row.name) rows)
first_is_named row rows =
    ap (λ t. cond t (1 + prefix_len (is_named row.name) rows) 0) (same_name-itself row.name) ∙ omega arith

symbols_from_first : (rows : List DynRow) → rises (names rows) ≡ true → 0 < length rows → symbols_by_name rows ≡ symbol_of_run (take (run_length rows) rows) ∷ symbols_by_name (drop (run_length rows) rows)
symbols_from_first [] h g = absurd (omega arith)
symbols_from_first (row ∷ rows) h g =
    let n = row.name in
    let k = prefix_len (is_named n) rows in
    let up = and_parts (list_all (not_before n) (names rows)) (rises (names rows)) h in
    let run : list_all (is_named n) (row ∷ take k rows) ≡ true = and_from (is_named n row) (list_all (is_named n) (take k rows)) (same_name-itself n) (front_named n rows) in
    let whole = ap symbols_by_name (ap (λ xs. row ∷ xs) (sym (take-append-drop k rows))) in
    rw first_is_named (whole ∙ symbols_of_run row (take k rows) (drop k rows) run (behind_after n rows up.1 up.0))

pub run_length_in : (rows : List DynRow) → 0 < length rows → (0 < run_length rows) × (run_length rows ≤ length rows)
run_length_in [] h = absurd (omega arith)
run_length_in (row ∷ rows) h = rw first_is_named (omega arith, omega (arith, prefix_len-le-length (is_named row.name) rows))

-- the symbols from a place on: that of the run there, and those behind it
pub symbols_from : (rows : List DynRow) (start : ℕ) → rises (names rows) ≡ true → start < length rows → symbols_by_name (drop start rows) ≡ symbol_of_run (take (run_length (drop start rows)) (drop start rows)) ∷ symbols_by_name (drop (start + run_length (drop start rows)) rows)
symbols_from rows start h g =
    let some : 0 < length (drop start rows) = omega (arith, length-drop start rows) in
    symbols_from_first (drop start rows) (rises_behind start rows h) some
    ∙ ap (λ xs. symbol_of_run (take (run_length (drop start rows)) (drop start rows)) ∷ symbols_by_name xs) (drop-drop (run_length (drop start rows)) start rows)
