-- Rows behind references.
use Rattle.std.proofs.Common.{◌≡◌, ℕ, ◌+◌, ◌<◌, Bool, true, cond, List, [], ◌∷◌, ◌++◌, length, get_or, drop, Option, Some, None, refl, sym, ap, ◌∙◌, append_assoc, ◌≤◌, arith}
use Rattle.std.specs.List.{list_all, find, prefix_len, take_while, cons_option, slice_get}
use Rattle.std.specs.Option.{option_to_list}
use Rattle.std.proofs.lemmas.List.{at_drop_more, append-nil, drop_all}
use Rattle.std.proofs.lemmas.List.Folds.{length-prefix_len}
use denote.Ref.{Bor}
use Rattle.ifs_interface.specs.declared.row.DynRow.{DynRow}
use Rattle.ifs_interface.specs.Triple.{same_name}
use Rattle.ifs_interface.specs.Extracted.{is_defined, is_weak, described, symbol_of}
use Rattle.elf_dyn.specs.ByName.{rows_at}
use Rattle.ifs_stub.specs.Rows.{pointed, run_length, symbol_of_run}
use Rattle.ifs_interface.proofs.Lists.{prefix_len_map_of}

-- the first defined row from a place on
pub find_defined_from : (rows : List (Bor DynRow)) (i : ℕ) (row : Bor DynRow) → i < length rows → row ≡ get_or rows i row → find is_defined (pointed (drop i rows)) ≡ cond (is_defined row.now) (Some row.now) (find is_defined (pointed (drop (i + 1) rows)))
find_defined_from rows i row h e =
    let F : List (Bor DynRow) → Option DynRow = λ xs. find is_defined (pointed xs) in
    at_drop_more F rows i row h ∙ ap (λ r. F (r ∷ drop (i + 1) rows)) (sym e)

pub run_length_pointed : (rows : List (Bor DynRow)) (first : Bor DynRow) → 0 < length rows → first ≡ get_or rows 0 first → run_length (pointed rows) ≡ length (take_while (λ row. same_name row.now.name first.now.name) rows)
run_length_pointed [] first h e = absurd (omega arith)
run_length_pointed (row ∷ rows) first h e =
    let named : Bor DynRow → Bor DynRow → Bool = λ one other. same_name other.now.name one.now.name in
    prefix_len_map_of (λ other. same_name other.name row.now.name) (λ r. r.now) (row ∷ rows)
    ∙ ap (λ one. prefix_len (named one) (row ∷ rows)) (sym e)
    ∙ sym (length-prefix_len (named first) (row ∷ rows))

pub symbol_of_defined : (rows : List (Bor DynRow)) (first : Bor DynRow) → 0 < length rows → first ≡ get_or rows 0 first → symbol_of_run (pointed rows) ≡ described first.now.name (find is_defined (pointed rows)) (pointed rows)
symbol_of_defined [] first h e = absurd (omega arith)
symbol_of_defined (row ∷ rows) first h e =
    ap (λ one. described one.now.name (find is_defined (pointed (row ∷ rows))) (pointed (row ∷ rows))) (sym e)

pub symbol_of_wanted : (rows : List (Bor DynRow)) (first : Bor DynRow) → 0 < length rows → first ≡ get_or rows 0 first → find is_defined (pointed rows) ≡ None → symbol_of_run (pointed rows) ≡ symbol_of first.now.name first.now (list_all is_weak (pointed rows)) true
symbol_of_wanted [] first h e none = absurd (omega arith)
symbol_of_wanted (row ∷ rows) first h e none =
    ap (λ found. described row.now.name found (pointed (row ∷ rows))) none
    ∙ ap (λ one. symbol_of one.now.name one.now (list_all is_weak (pointed (row ∷ rows))) true) (sym e)

pointed_push : (old : List (Bor DynRow)) (row : Bor DynRow) → pointed (old ++ row ∷ []) ≡ pointed old ++ row.now ∷ []
pointed_push [] row = refl
pointed_push (first ∷ old) row = ap (λ rows. first.now ∷ rows) (pointed_push old row)

-- the row at a place is appended, if there is one
pub pushed_at : (old new : List (Bor DynRow)) (row : Bor DynRow) (o : Option DynRow) → new ≡ old ++ row ∷ [] → Some row.now ≡ o → pointed new ≡ pointed old ++ option_to_list o
pushed_at old new row o e is = ap pointed e ∙ pointed_push old row ∙ ap (λ o. pointed old ++ option_to_list o) is

option_front : (o : Option DynRow) (rows : List DynRow) → cons_option o rows ≡ option_to_list o ++ rows
option_front None rows = refl
option_front (Some row) rows = refl

-- a turn: the row at the next place is appended
pub rows_more : (rows : List DynRow) (places : List ℕ) (i place : ℕ) (old new all : List DynRow) → i < length places → place ≡ get_or places i place → new ≡ old ++ option_to_list (slice_get rows place) → old ++ rows_at rows (drop i places) ≡ all → new ++ rows_at rows (drop (i + 1) places) ≡ all
rows_more rows places i place old new all h is pushed so_far =
    let rest = rows_at rows (drop (i + 1) places) in
    let turn : rows_at rows (drop i places) ≡ option_to_list (slice_get rows place) ++ rest =
    at_drop_more (rows_at rows) places i place h ∙ ap (λ p. cons_option (slice_get rows p) rest) (sym is) ∙ option_front (slice_get rows place) rest in
    ap (λ xs. xs ++ rest) pushed ∙ append_assoc old (option_to_list (slice_get rows place)) rest ∙ ap (λ xs. old ++ xs) (sym turn) ∙ so_far

pub rows_end : (rows : List DynRow) (places : List ℕ) (i : ℕ) (done all : List DynRow) → length places ≤ i → done ++ rows_at rows (drop i places) ≡ all → done ≡ all
rows_end rows places i done all past so_far =
    sym (append-nil done) ∙ sym (ap (λ ps. done ++ rows_at rows ps) (drop_all i places past)) ∙ so_far
