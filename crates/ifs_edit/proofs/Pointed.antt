-- Symbols behind references.
use Rattle.std.proofs.Common.{◌≡◌, ℕ, ◌+◌, ◌<◌, Bool, true, cond, not, List, [], ◌∷◌, ◌++◌, length, get_or, drop, Option, Some, refl, sym, ap, ◌∙◌, arith}
use Rattle.std.specs.List.{find, list_all, prefix_len, take_while}
use Rattle.std.proofs.lemmas.Bool.{and_parts, and_from}
use Rattle.ifs_interface.specs.Interface.{InterfaceRecord, IsInterface, is_proper_name, names_of}
use Rattle.std.proofs.lemmas.List.{at_drop_more}
use Rattle.std.proofs.lemmas.List.Folds.{length-prefix_len}
use denote.Ref.{Bor}
use Rattle.ifs_interface.specs.declared.symbol.Symbol.{Symbol}
use Rattle.ifs_interface.specs.Triple.{same_name}
use Rattle.ifs_interface.proofs.Lists.{prefix_len_map_of}
use Rattle.ifs_edit.specs.declared.united.Field.{Field}
use Rattle.ifs_edit.specs.Merged.{same_in}
use Rattle.ifs_edit.specs.Sorted.{pointed, run_length}

abbrev pub unlike : Field → Symbol → Symbol → Bool
unlike field one s = not (same_in field one s)

-- the first symbol that is unlike another, from a place on
pub find_unlike_from : (field : Field) (one : Symbol) (symbols : List (Bor Symbol)) (i : ℕ) (symbol : Bor Symbol) → i < length symbols → symbol ≡ get_or symbols i symbol → find (unlike field one) (pointed (drop i symbols)) ≡ cond (unlike field one symbol.now) (Some symbol.now) (find (unlike field one) (pointed (drop (i + 1) symbols)))
find_unlike_from field one symbols i symbol h e =
    let F : List (Bor Symbol) → Option Symbol = λ xs. find (unlike field one) (pointed xs) in
    at_drop_more F symbols i symbol h ∙ ap (λ r. F (r ∷ drop (i + 1) symbols)) (sym e)

pub run_length_pointed : (symbols : List (Bor Symbol)) (first : Bor Symbol) → 0 < length symbols → first ≡ get_or symbols 0 first → run_length (pointed symbols) ≡ length (take_while (λ s. same_name s.now.name first.now.name) symbols)
run_length_pointed [] first h e = absurd (omega arith)
run_length_pointed (symbol ∷ symbols) first h e =
    let named : Bor Symbol → Bor Symbol → Bool = λ one other. same_name other.now.name one.now.name in
    prefix_len_map_of (λ other. same_name other.name symbol.now.name) (λ s. s.now) (symbol ∷ symbols)
    ∙ ap (λ one. prefix_len (named one) (symbol ∷ symbols)) (sym e)
    ∙ sym (length-prefix_len (named first) (symbol ∷ symbols))

pub pointed-push : (symbols : List (Bor Symbol)) (symbol : Bor Symbol) → pointed (symbols ++ symbol ∷ []) ≡ pointed symbols ++ symbol.now ∷ []
pointed-push [] symbol = refl
pointed-push (s ∷ symbols) symbol = ap (λ more. s.now ∷ more) (pointed-push symbols symbol)

proper_append : (xs ys : List Symbol) → list_all is_proper_name (names_of xs) ≡ true → list_all is_proper_name (names_of ys) ≡ true → list_all is_proper_name (names_of (xs ++ ys)) ≡ true
proper_append [] ys h g = g
proper_append (x ∷ xs) ys h g =
    let parts = and_parts (is_proper_name x.name) (list_all is_proper_name (names_of xs)) h in
    and_from (is_proper_name x.name) (list_all is_proper_name (names_of (xs ++ ys))) parts.0 (proper_append xs ys parts.1 g)

-- the symbols of one more interface
pub proper_more : (old new : List Symbol) (i : InterfaceRecord) (symbols : List Symbol) → IsInterface i → symbols ≡ i.symbols → new ≡ old ++ symbols → list_all is_proper_name (names_of old) ≡ true → list_all is_proper_name (names_of new) ≡ true
proper_more old new i symbols whole same new_is h =
    ap (λ all. list_all is_proper_name (names_of all)) (new_is ∙ ap (λ more. old ++ more) same) ∙ proper_append old i.symbols h whole.parts.names_are_proper
