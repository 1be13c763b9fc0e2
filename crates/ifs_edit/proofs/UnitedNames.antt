-- The names of symbols that were united.
use Rattle.std.proofs.Common.{◌≡◌, ℕ, Bool, true, List, [], ◌∷◌, map, filter, length, get_or, ◌<◌, sym, ap, ◌∙◌, arith}
use Rattle.std.specs.Prelude.{Result, Ok, Err}
use Rattle.std.specs.List.{list_all}
use Rattle.std.proofs.lemmas.Bool.{false≢true, and_parts}
use Rattle.ifs_bytes.specs.Outcome.{◌>>=◌}
use denote.Ref.{Bor}
use Rattle.ifs_interface.specs.declared.symbol.Symbol.{Symbol}
use Rattle.ifs_interface.specs.Triple.{same_name}
use Rattle.ifs_interface.specs.Extracted.{in_order}
use Rattle.ifs_interface.specs.Interface.{InterfaceRecord, ascends, is_proper_name, names_of}
use Rattle.ifs_interface.proofs.Names.{same_name-is}
use Rattle.ifs_interface.proofs.Lists.{has_some}
use Rattle.ifs_interface.proofs.InOrder.{all_in_order, in_order_ascends}
use Rattle.ifs_interface.proofs.Groups.{all_some, group_is_named}
use Rattle.ifs_edit.specs.declared.cause.MergeCause.{MergeCause}
use Rattle.ifs_edit.specs.Merged.{all_agree, all_symbols, by_name, merged, parts_agree, united, united_each, with_symbols}
use Rattle.ifs_edit.specs.Sorted.{pointed, IsSortedByName}
use Rattle.ifs_edit.proofs.Binding.{bound_ok}
use Rattle.ifs_edit.proofs.Sorting.{sorted_groups}

-- the symbol has the name; the symbols of a name
abbrev pub named : List ℕ → Symbol → Bool
named n s = same_name s.name n

abbrev pub group : List Symbol → List ℕ → List Symbol
group symbols n = filter (named n) symbols

abbrev name : Symbol → List ℕ
name s = s.name

-- a symbol that was united has the name of its group
united_name : (symbols : List Symbol) (n : List ℕ) (s : Symbol) → list_all (named n) symbols ≡ true → has_some symbols ≡ true → united symbols ≡ Ok s → s.name ≡ n
united_name [] n s h g e = absurd (false≢true g)
united_name (first ∷ others) n s h g e =
    let bound = bound_ok (all_agree first (first ∷ others)) (λ _. Ok first) s e in
    let same : first ≡ s = cc in
    ap (λ (x : Symbol). x.name) (sym same) ∙ same_name-is first.name n (and_parts (named n first) (list_all (named n) others) h).0

names_united : (xs : List Symbol) (ns : List (List ℕ)) (ss : List Symbol) → list_all (λ n. has_some (group xs n)) ns ≡ true → united_each (map (group xs) ns) ≡ Ok ss → names_of ss ≡ ns
names_united xs [] ss h e = let none : [] ≡ ss = cc in ap names_of (sym none)
names_united xs (n ∷ ns) ss h e =
    let parts = and_parts (has_some (group xs n)) (list_all (λ n. has_some (group xs n)) ns) h in
    let first = bound_ok (united (group xs n)) (λ s. united_each (map (group xs) ns) >>= (λ more. Ok (s ∷ more))) ss e in
    let later = bound_ok (united_each (map (group xs) ns)) (λ more. Ok (first.0 ∷ more)) ss first.2 in
    let same : (first.0 ∷ later.0) ≡ ss = cc in
    let here = united_name (group xs n) n first.0 (group_is_named name n xs) parts.0 first.1 in
    let rest = names_united xs ns later.0 parts.1 later.1 in
    ap names_of (sym same) ∙ (λ i. here i ∷ rest i)

-- the names of all symbols that were united
names_are : (xs ss : List Symbol) → united_each (by_name xs) ≡ Ok ss → names_of ss ≡ in_order (names_of xs)
unfolding by_name
names_are xs ss e = names_united xs (in_order (names_of xs)) ss (all_some name xs) e

pub united_ascend : (symbols : List Symbol) (sorted : List (Bor Symbol)) (ss : List Symbol) → IsSortedByName symbols sorted → united_each (by_name (pointed sorted)) ≡ Ok ss → ascends (names_of ss) ≡ true
united_ascend symbols sorted ss is e =
    ap ascends (names_are symbols ss (ap united_each (sym (sorted_groups symbols sorted is)) ∙ e)) ∙ in_order_ascends (names_of symbols)

pub united_proper : (symbols : List Symbol) (sorted : List (Bor Symbol)) (ss : List Symbol) → IsSortedByName symbols sorted → list_all is_proper_name (names_of symbols) ≡ true → united_each (by_name (pointed sorted)) ≡ Ok ss → list_all is_proper_name (names_of ss) ≡ true
united_proper symbols sorted ss is proper e =
    ap (list_all is_proper_name) (names_are symbols ss (ap united_each (sym (sorted_groups symbols sorted is)) ∙ e)) ∙ all_in_order is_proper_name (names_of symbols) proper

-- ---- the merge

abbrev finished : InterfaceRecord → Result (List Symbol) MergeCause → Result InterfaceRecord MergeCause
finished first symbols = symbols >>= (λ ss. Ok (with_symbols first ss))

-- where the parts agree, a merge is what the sorted symbols are together
pub merged_by_sorted : (list : List InterfaceRecord) (first : InterfaceRecord) (sorted : List (Bor Symbol)) → 0 < length list → first ≡ get_or list 0 first → Ok tt ≡ parts_agree first 0 list → IsSortedByName (all_symbols list) sorted → merged list ≡ finished first (united_each (by_name (pointed sorted)))
unfolding merged
merged_by_sorted [] first sorted h is agree sort = absurd (omega arith)
merged_by_sorted (i ∷ list) first sorted h is agree sort =
    ap (λ (f : InterfaceRecord). parts_agree f 0 (i ∷ list) >>= (λ _. finished f (united_each (by_name (all_symbols (i ∷ list)))))) (sym is)
    ∙ ap (λ r. r >>= (λ _. finished first (united_each (by_name (all_symbols (i ∷ list)))))) (sym agree)
    ∙ ap (λ groups. finished first (united_each groups)) (sym (sorted_groups (all_symbols (i ∷ list)) sorted sort))

pub merged_ok : (list : List InterfaceRecord) (first : InterfaceRecord) (sorted : List (Bor Symbol)) (ss : List Symbol) → 0 < length list → first ≡ get_or list 0 first → Ok tt ≡ parts_agree first 0 list → IsSortedByName (all_symbols list) sorted → united_each (by_name (pointed sorted)) ≡ Ok ss → Ok (with_symbols first ss) ≡ merged list
merged_ok list first sorted ss h is agree sort e = sym (merged_by_sorted list first sorted h is agree sort ∙ ap (finished first) e)

pub merged_err : (list : List InterfaceRecord) (first : InterfaceRecord) (sorted : List (Bor Symbol)) (cause : MergeCause) → 0 < length list → first ≡ get_or list 0 first → Ok tt ≡ parts_agree first 0 list → IsSortedByName (all_symbols list) sorted → united_each (by_name (pointed sorted)) ≡ Err cause → merged list ≡ Err cause
merged_err list first sorted cause h is agree sort e = merged_by_sorted list first sorted h is agree sort ∙ ap (finished first) e
