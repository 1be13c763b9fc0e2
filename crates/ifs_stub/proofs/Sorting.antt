-- A stable sort of references to rows, and the pass over the runs in them.
use Rattle.std.proofs.Common.{◌≡◌, ℕ, ◌+◌, ◌<◌, ◌≤◌, Bool, true, List, [], ◌∷◌, ◌++◌, length, map, take, drop, Option, Some, None, refl, sym, ap, ◌∙◌, append_assoc, arith}
use Rattle.std.specs.List.{list_all, find}
use Rattle.std.specs.List.Sorted.{IsSortedBy}
use Rattle.std.proofs.lemmas.List.{get_or-map, length-map, drop-map, take-map, drop_all, append-nil}
use Rattle.std.proofs.lemmas.List.Folds.{list_all-map}
use denote.Ref.{Bor}
use Rattle.ifs_interface.specs.declared.row.DynRow.{DynRow}
use Rattle.ifs_interface.specs.declared.symbol.Symbol.{Symbol}
use Rattle.ifs_interface.specs.Triple.{same_name}
use Rattle.ifs_interface.specs.Interface.{comes_before, ascends, is_proper_name, names_of}
use Rattle.ifs_interface.specs.Extracted.{in_order, rows_named, symbol_named, visible_names, described, is_defined}
use Rattle.ifs_stub.specs.Rows.{pointed, run_length, symbol_of_run, symbols_by_name}
use Rattle.elf_dyn.specs.ByName.{IsSortedByName}
use Rattle.elf_dyn.specs.ByName as order
use Rattle.elf_dyn.proofs.RankedOrder.{is_named}
use Rattle.ifs_interface.proofs.Names.{rises, rises-from_sorted}
use Rattle.ifs_interface.proofs.Lists.{any_map_of, any_by_filter, has_some, map_map, map_itself}
use Rattle.ifs_interface.proofs.InOrder.{has, has_in_order, in_order_ascends, ascending_unique, all_in_order}
use Rattle.ifs_stub.proofs.Runs.{names, symbol_by, run_length_in, symbols_from}

-- ---- references to rows in order

abbrev pub before : Bor DynRow → Bor DynRow → Bool
before one other = comes_before one.now.name other.now.name

-- the names of sorted rows never fall
rising : (rows : List (Bor DynRow)) → IsSortedBy before rows → rises (names (pointed rows)) ≡ true
rising rows up =
    ap rises (map_map (λ row. row.name) (λ row. row.now) rows) ∙ rises-from_sorted (λ row. row.now.name) rows up

-- references are in order where their rows are
pub pointed_in_order : (references : List (Bor DynRow)) → order.AreInNameOrder (pointed references) → IsSortedBy before references
pointed_in_order references up k d low lt =
    let long = length-map references (λ r. r.now) in
    let second = get_or-map (λ (r : Bor DynRow). r.now) references (k + 1) d d.now (omega arith) in
    let first = get_or-map (λ (r : Bor DynRow). r.now) references k d d.now (omega arith) in
    (λ i. comes_before (sym second i).name (sym first i).name) ∙ up k d.now low (omega arith)

-- ---- the symbols of sorted rows are those of the rows

has_named : (q : List ℕ) (rows : List DynRow) → has q (names rows) ≡ has_some (rows_named q rows)
has_named q rows = any_map_of (λ m. same_name m q) (λ row. row.name) rows ∙ any_by_filter (is_named q) rows

pub symbols_of_sorted : (rows sorted : List DynRow) → IsSortedByName rows sorted → symbols_by_name sorted ≡ symbols_by_name rows
unfolding visible_names symbol_named
symbols_of_sorted rows sorted is =
    let same_names : in_order (names sorted) ≡ in_order (names rows) = ascending_unique (in_order (names sorted)) (in_order (names rows)) (in_order_ascends (names sorted)) (in_order_ascends (names rows)) (λ q. has_in_order q (names sorted) ∙ has_named q sorted ∙ ap has_some (is.same_rows q) ∙ sym (has_named q rows) ∙ sym (has_in_order q (names rows))) in
    λ i. map (λ name. symbol_by name (is.same_rows name i)) (same_names i)

-- ---- the pass over the runs

pub run_length_within : (rows : List (Bor DynRow)) → 0 < length rows → (0 < run_length (pointed rows)) × (run_length (pointed rows) ≤ length rows)
run_length_within rows h =
    let long = length-map rows (λ row. row.now) in
    let within = run_length_in (pointed rows) (omega arith) in
    (within.0, omega arith)

-- a turn: the run from a place on becomes a symbol
pub symbols_more : (rows : List (Bor DynRow)) (start : ℕ) (rest run : List (Bor DynRow)) (k : ℕ) (done : List Symbol) (symbol : Symbol) → IsSortedBy before rows → start < length rows → rest ≡ drop start rows → k ≡ run_length (pointed rest) → run ≡ take k rest → symbol ≡ symbol_of_run (pointed run) → done ++ symbols_by_name (drop start (pointed rows)) ≡ symbols_by_name (pointed rows) → (done ++ symbol ∷ []) ++ symbols_by_name (drop (start + k) (pointed rows)) ≡ symbols_by_name (pointed rows)
symbols_more rows start rest run k done symbol up within rest_is k_is run_is symbol_is so_far =
    let all = pointed rows in
    let behind : pointed rest ≡ drop start all = ap pointed rest_is ∙ sym (drop-map (λ row. row.now) start rows) in
    let length_is : run_length (drop start all) ≡ k = sym (k_is ∙ ap run_length behind) in
    let front : pointed run ≡ take k (drop start all) = ap pointed run_is ∙ sym (take-map (λ row. row.now) k rest) ∙ ap (take k) behind in
    let here : symbol_of_run (take (run_length (drop start all)) (drop start all)) ≡ symbol = ap (λ n. symbol_of_run (take n (drop start all))) length_is ∙ sym (symbol_is ∙ ap symbol_of_run front) in
    let long = length-map rows (λ row. row.now) in
    let turn : symbols_by_name (drop start all) ≡ symbol ∷ symbols_by_name (drop (start + k) all) = symbols_from all start (rising rows up) (omega arith) ∙ (λ i. here i ∷ symbols_by_name (drop (start + length_is i) all)) in
    append_assoc done (symbol ∷ []) (symbols_by_name (drop (start + k) all)) ∙ ap (λ symbols. done ++ symbols) (sym turn) ∙ so_far

pub symbols_end : (rows : List (Bor DynRow)) (start : ℕ) (done : List Symbol) → length rows ≤ start → done ++ symbols_by_name (drop start (pointed rows)) ≡ symbols_by_name (pointed rows) → done ≡ symbols_by_name (pointed rows)
unfolding visible_names
symbols_end rows start done past so_far =
    let long = length-map rows (λ row. row.now) in
    let none : drop start (pointed rows) ≡ [] = drop_all start (pointed rows) (omega arith) in
    sym (append-nil done) ∙ sym (ap (λ xs. done ++ symbols_by_name xs) none) ∙ so_far

-- ---- names of the symbols

name_is : (rows : List DynRow) (name : List ℕ) → (symbol_named rows name).name ≡ name
unfolding symbol_named
name_is rows name = by (find is_defined (rows_named name rows)) (rows_named name rows)
  where
    by : (found : Option DynRow) (named : List DynRow) → (described name found named).name ≡ name
    by (Some row) named = refl
    by None [] = refl
    by None (row ∷ named) = refl

names_are : (rows : List DynRow) → names_of (symbols_by_name rows) ≡ in_order (names rows)
unfolding visible_names
names_are rows =
    map_map (λ symbol. symbol.name) (symbol_named rows) (in_order (names rows)) ∙ map_itself (λ name. (symbol_named rows name).name) (name_is rows) (in_order (names rows))

pub names_ascend : (rows : List DynRow) → ascends (names_of (symbols_by_name rows)) ≡ true
names_ascend rows = ap ascends (names_are rows) ∙ in_order_ascends (names rows)

pub names_are_proper : (rows : List DynRow) → list_all (λ row. is_proper_name row.name) rows ≡ true → list_all is_proper_name (names_of (symbols_by_name rows)) ≡ true
names_are_proper rows proper =
    ap (list_all is_proper_name) (names_are rows)
    ∙ all_in_order is_proper_name (names rows) (list_all-map is_proper_name (λ row. row.name) rows ∙ proper)
