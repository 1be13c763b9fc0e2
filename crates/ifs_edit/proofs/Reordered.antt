-- A merge in another order.
use Rattle.std.proofs.Common.{◌≡◌, ℕ, ◌+◌, Bool, true, false, cond, not, ◌&&◌, ◌||◌, List, [], ◌∷◌, map, Some, None, refl, sym, ap, ◌∙◌, subst, arith}
use Rattle.std.specs.Prelude.{Result, Ok}
use Rattle.std.specs.List.{find, list_all, list_any}
use Rattle.std.specs.List.Sorted.{IsPermutation}
use Rattle.std.proofs.lemmas.Bool.{false≢true, and_parts, and_from}
use Rattle.std.proofs.lemmas.List.Elements.{filter-append}
use Rattle.std.proofs.lemmas.List.Folds.{list_all-append, list_any-append}
use Rattle.std.proofs.lemmas.List.Sorted.{length_permutation, list_any-IsPermutation}
use Rattle.ifs_bytes.specs.Outcome.{◌>>=◌, check}
use Rattle.ifs_interface.specs.declared.symbol.Symbol.{Symbol}
use Rattle.ifs_interface.specs.Triple.{same_name}
use Rattle.ifs_interface.specs.Extracted.{in_order}
use Rattle.ifs_interface.specs.Interface.{InterfaceRecord, names_of}
use Rattle.ifs_interface.proofs.Names.{same_name-is, same_name-itself, list_all-IsPermutation}
use Rattle.ifs_interface.proofs.Repeats.{list_all-weaker}
use Rattle.ifs_interface.proofs.Lists.{has_some, any_by_filter}
use Rattle.ifs_interface.proofs.InOrder.{ascending_unique, has_in_order, in_order_ascends}
use Rattle.ifs_interface.proofs.Groups.{all_some, group_is_named, has_named}
use Rattle.ifs_edit.specs.declared.cause.MergeCause.{MergeCause}
use Rattle.ifs_edit.specs.declared.cause.MergeCause.TheVariants.{TargetMismatch, SonameMismatch, NeededMismatch}
use Rattle.ifs_edit.specs.declared.united.Field.{Field}
use Rattle.ifs_edit.specs.declared.united.Field.TheVariants.{Kind as Kinds, Size, Weak, Undefined, Warning}
use Rattle.ifs_edit.specs.Merged.{agree_in, all_agree, all_symbols, by_name, merged, parts_agree, same_in, same_names, same_parts, same_soname, same_target, united, united_each, unless_other, with_symbols}
use Rattle.ifs_edit.proofs.Binding.{bound_ok}
use Rattle.ifs_edit.proofs.Sameness.{in_itself, names_is, same_symbol, soname_is, symbol_is, target_is}
use Rattle.ifs_edit.proofs.UnitedNames.{group, named}

-- ---- lists that pass

all_both : {X : Type 0} (p q : X → Bool) (xs : List X) → list_all p xs ≡ true → list_all q xs ≡ true → list_all (λ x. p x && q x) xs ≡ true
all_both p q [] h g = refl
all_both p q (x ∷ xs) h g =
    let one = and_parts (p x) (list_all p xs) h in
    let other = and_parts (q x) (list_all q xs) g in
    and_from (p x && q x) (list_all (λ y. p y && q y) xs) (and_from (p x) (q x) one.0 other.0) (all_both p q xs one.1 other.1)

-- ---- symbols of one name

-- where no symbol is unlike the first, all are like it
no_other : (p : Symbol → Bool) (field : Field) (first : Symbol) (xs : List Symbol) → unless_other field first (find (λ s. not (p s)) xs) ≡ Ok tt → list_all p xs ≡ true
no_other p field first [] h = refl
no_other p field first (x ∷ xs) h = by (p x) refl h (λ g. no_other p field first xs g)
  where
    by : (t : Bool) → p x ≡ t → unless_other field first (cond (not t) (Some x) (find (λ s. not (p s)) xs)) ≡ Ok tt → (unless_other field first (find (λ s. not (p s)) xs) ≡ Ok tt → list_all p xs ≡ true) → list_all p (x ∷ xs) ≡ true
    by true e h rest = and_from (p x) (list_all p xs) e (rest h)
    by false e h rest = absurd (cc)

find_no_other : (p : Symbol → Bool) (xs : List Symbol) → list_all p xs ≡ true → find (λ s. not (p s)) xs ≡ None
find_no_other p [] h = refl
find_no_other p (x ∷ xs) h =
    let parts = and_parts (p x) (list_all p xs) h in
    ap (λ t. cond (not t) (Some x) (find (λ s. not (p s)) xs)) parts.0 ∙ find_no_other p xs parts.1

agree_all : (field : Field) (first : Symbol) (xs : List Symbol) → agree_in field first xs ≡ Ok tt → list_all (same_in field first) xs ≡ true
unfolding agree_in
agree_all field first xs h = no_other (same_in field first) field first xs h

all_agree_in : (field : Field) (first : Symbol) (xs : List Symbol) → list_all (same_in field first) xs ≡ true → agree_in field first xs ≡ Ok tt
unfolding agree_in
all_agree_in field first xs h = ap (unless_other field first) (find_no_other (same_in field first) xs h)

pub record AllSame (first : Symbol) (xs : List Symbol) : Type 0 where
  pub kinds : list_all (same_in Kinds first) xs ≡ true
  pub sizes : list_all (same_in Size first) xs ≡ true
  pub weak : list_all (same_in Weak first) xs ≡ true
  pub undefined : list_all (same_in Undefined first) xs ≡ true
  pub warnings : list_all (same_in Warning first) xs ≡ true

all_same : (first : Symbol) (xs : List Symbol) → all_agree first xs ≡ Ok tt → AllSame first xs
unfolding all_agree
all_same first xs h =
    let one = bound_ok (agree_in Kinds first xs) (λ _. agree_in Size first xs >>= (λ _. agree_in Weak first xs >>= (λ _. agree_in Undefined first xs >>= (λ _. agree_in Warning first xs)))) tt h in
    let two = bound_ok (agree_in Size first xs) (λ _. agree_in Weak first xs >>= (λ _. agree_in Undefined first xs >>= (λ _. agree_in Warning first xs))) tt one.2 in
    let three = bound_ok (agree_in Weak first xs) (λ _. agree_in Undefined first xs >>= (λ _. agree_in Warning first xs)) tt two.2 in
    let four = bound_ok (agree_in Undefined first xs) (λ _. agree_in Warning first xs) tt three.2 in
    record {
      kinds = agree_all Kinds first xs one.1;
      sizes = agree_all Size first xs two.1;
      weak = agree_all Weak first xs three.1;
      undefined = agree_all Undefined first xs four.1;
      warnings = agree_all Warning first xs four.2;
    }

same_agree : (first : Symbol) (xs : List Symbol) → AllSame first xs → all_agree first xs ≡ Ok tt
unfolding all_agree
same_agree first xs same =
    ap (λ r. r >>= (λ _. agree_in Size first xs >>= (λ _. agree_in Weak first xs >>= (λ _. agree_in Undefined first xs >>= (λ _. agree_in Warning first xs))))) (all_agree_in Kinds first xs same.kinds)
    ∙ ap (λ r. r >>= (λ _. agree_in Weak first xs >>= (λ _. agree_in Undefined first xs >>= (λ _. agree_in Warning first xs)))) (all_agree_in Size first xs same.sizes)
    ∙ ap (λ r. r >>= (λ _. agree_in Undefined first xs >>= (λ _. agree_in Warning first xs))) (all_agree_in Weak first xs same.weak)
    ∙ ap (λ r. r >>= (λ _. agree_in Warning first xs)) (all_agree_in Undefined first xs same.undefined)
    ∙ all_agree_in Warning first xs same.warnings

-- symbols of a name that are one together are all equal to it
united_all : (xs : List Symbol) (n : List ℕ) (s : Symbol) → list_all (named n) xs ≡ true → has_some xs ≡ true → united xs ≡ Ok s → list_all (same_symbol s) xs ≡ true
united_all [] n s h g e = absurd (false≢true g)
united_all (x ∷ xs) n s h g e =
    let bound = bound_ok (all_agree x (x ∷ xs)) (λ _. Ok x) s e in
    let first : x ≡ s = cc in
    let same = all_same x (x ∷ xs) bound.1 in
    let here : x.name ≡ n = same_name-is x.name n (and_parts (named n x) (list_all (named n) xs) h).0 in
    let like = λ (y : Symbol) (k : named n y ≡ true). ap (same_name x.name) (same_name-is y.name n k ∙ sym here) ∙ same_name-itself x.name in
    let names = list_all-weaker (named n) (λ y. same_name x.name y.name) like (x ∷ xs) h in
    let last = all_both (same_in Undefined x) (same_in Warning x) (x ∷ xs) same.undefined same.warnings in
    let third = all_both (same_in Weak x) (λ y. same_in Undefined x y && same_in Warning x y) (x ∷ xs) same.weak last in
    let second = all_both (same_in Size x) (λ y. same_in Weak x y && (same_in Undefined x y && same_in Warning x y)) (x ∷ xs) same.sizes third in
    let each = all_both (same_in Kinds x) (λ y. same_in Size x y && (same_in Weak x y && (same_in Undefined x y && same_in Warning x y))) (x ∷ xs) same.kinds second in
    let all = all_both (λ y. same_name x.name y.name) (λ y. same_in Kinds x y && (same_in Size x y && (same_in Weak x y && (same_in Undefined x y && same_in Warning x y)))) (x ∷ xs) names each in
    subst (λ z. list_all (same_symbol z) (x ∷ xs) ≡ true) first all

-- symbols that are all equal to one are that one together
all_united : (xs : List Symbol) (s : Symbol) → has_some xs ≡ true → list_all (same_symbol s) xs ≡ true → united xs ≡ Ok s
all_united [] s g h = absurd (false≢true g)
all_united (x ∷ xs) s g h =
    let first : s ≡ x = symbol_is s x (and_parts (same_symbol s x) (list_all (same_symbol s) xs) h).0 in
    let like = λ (field : Field). list_all-weaker (same_symbol s) (same_in field x) (λ y k. subst (λ z. same_in field x z ≡ true) (sym first ∙ symbol_is s y k) (in_itself field x)) (x ∷ xs) h in
    let same : AllSame x (x ∷ xs) = record { kinds = like Kinds; sizes = like Size; weak = like Weak; undefined = like Undefined; warnings = like Warning } in
    ap (λ r. r >>= (λ _. Ok x)) (same_agree x (x ∷ xs) same) ∙ ap (λ y. Ok y) (sym first)

-- ---- the symbols of several inputs

all_by_input : (p : Symbol → Bool) (n : List ℕ) (list : List InterfaceRecord) → list_all p (group (all_symbols list) n) ≡ list_all (λ i. list_all p (group i.symbols n)) list
all_by_input p n [] = refl
all_by_input p n (i ∷ list) =
    ap (list_all p) (filter-append (named n) i.symbols (all_symbols list))
    ∙ list_all-append p (group i.symbols n) (group (all_symbols list) n)
    ∙ ap (λ t. list_all p (group i.symbols n) && t) (all_by_input p n list)

any_by_input : (n : List ℕ) (list : List InterfaceRecord) → list_any (named n) (all_symbols list) ≡ list_any (λ i. list_any (named n) i.symbols) list
any_by_input n [] = refl
any_by_input n (i ∷ list) =
    list_any-append (named n) i.symbols (all_symbols list) ∙ ap (λ t. list_any (named n) i.symbols || t) (any_by_input n list)

some_moved : (n : List ℕ) (xs ys : List InterfaceRecord) → IsPermutation xs ys → has_some (group (all_symbols xs) n) ≡ has_some (group (all_symbols ys) n)
some_moved n xs ys moved =
    sym (any_by_filter (named n) (all_symbols xs))
    ∙ any_by_input n xs
    ∙ list_any-IsPermutation (λ i. list_any (named n) i.symbols) xs ys moved
    ∙ sym (any_by_input n ys)
    ∙ any_by_filter (named n) (all_symbols ys)

united_moved : (n : List ℕ) (s : Symbol) (xs ys : List InterfaceRecord) → IsPermutation xs ys → has_some (group (all_symbols xs) n) ≡ true → united (group (all_symbols xs) n) ≡ Ok s → united (group (all_symbols ys) n) ≡ Ok s
united_moved n s xs ys moved some e =
    let all = united_all (group (all_symbols xs) n) n s (group_is_named (λ (s : Symbol). s.name) n (all_symbols xs)) some e in
    let each = list_all-IsPermutation (λ i. list_all (same_symbol s) (group i.symbols n)) xs ys moved (sym (all_by_input (same_symbol s) n xs) ∙ all) in
    all_united (group (all_symbols ys) n) s (sym (some_moved n xs ys moved) ∙ some) (all_by_input (same_symbol s) n ys ∙ each)

each_moved : (xs ys : List InterfaceRecord) (ns : List (List ℕ)) (ss : List Symbol) → IsPermutation xs ys → list_all (λ n. has_some (group (all_symbols xs) n)) ns ≡ true → united_each (map (group (all_symbols xs)) ns) ≡ Ok ss → united_each (map (group (all_symbols ys)) ns) ≡ Ok ss
each_moved xs ys [] ss moved some e = e
each_moved xs ys (n ∷ ns) ss moved some e =
    let parts = and_parts (has_some (group (all_symbols xs) n)) (list_all (λ n. has_some (group (all_symbols xs) n)) ns) some in
    let first = bound_ok (united (group (all_symbols xs) n)) (λ s. united_each (map (group (all_symbols xs)) ns) >>= (λ more. Ok (s ∷ more))) ss e in
    let later = bound_ok (united_each (map (group (all_symbols xs)) ns)) (λ more. Ok (first.0 ∷ more)) ss first.2 in
    ap (λ r. r >>= (λ s. united_each (map (group (all_symbols ys)) ns) >>= (λ more. Ok (s ∷ more)))) (united_moved n first.0 xs ys moved parts.0 first.1)
    ∙ ap (λ r. r >>= (λ more. Ok (first.0 ∷ more))) (each_moved xs ys ns later.0 moved parts.1 later.1)
    ∙ later.2

names_moved : (xs ys : List InterfaceRecord) → IsPermutation xs ys → in_order (names_of (all_symbols xs)) ≡ in_order (names_of (all_symbols ys))
names_moved xs ys moved =
    let one = names_of (all_symbols xs) in
    let other = names_of (all_symbols ys) in
    let name = λ (s : Symbol). s.name in
    ascending_unique (in_order one) (in_order other) (in_order_ascends one) (in_order_ascends other) (λ q. has_in_order q one ∙ has_named name q (all_symbols xs) ∙ some_moved q xs ys moved ∙ sym (has_named name q (all_symbols ys)) ∙ sym (has_in_order q other))

symbols_moved : (xs ys : List InterfaceRecord) (ss : List Symbol) → IsPermutation xs ys → united_each (by_name (all_symbols xs)) ≡ Ok ss → united_each (by_name (all_symbols ys)) ≡ Ok ss
unfolding by_name
symbols_moved xs ys ss moved e =
    ap (λ ns. united_each (map (group (all_symbols ys)) ns)) (sym (names_moved xs ys moved))
    ∙ each_moved xs ys (in_order (names_of (all_symbols xs))) ss moved (all_some (λ (s : Symbol). s.name) (all_symbols xs)) e

-- ---- the other parts

abbrev alike : InterfaceRecord → InterfaceRecord → Bool
alike a b = same_target a.target b.target && (same_soname a.soname b.soname && same_names a.needed b.needed)

three_checked : (a b c : Bool) (x y z : MergeCause) → (check a x >>= (λ _. check b y >>= (λ _. check c z))) ≡ Ok tt → (a && (b && c)) ≡ true
three_checked true true true x y z h = refl
three_checked true true false x y z h = absurd (cc)
three_checked true false c x y z h = absurd (cc)
three_checked false b c x y z h = absurd (cc)

three_hold : (a b c : Bool) (x y z : MergeCause) → (a && (b && c)) ≡ true → (check a x >>= (λ _. check b y >>= (λ _. check c z))) ≡ Ok tt
three_hold true true true x y z h = refl
three_hold true true false x y z h = absurd (false≢true h)
three_hold true false c x y z h = absurd (false≢true h)
three_hold false b c x y z h = absurd (false≢true h)

parts_alike : (first : InterfaceRecord) (at : ℕ) (i : InterfaceRecord) → same_parts first at i ≡ Ok tt → alike first i ≡ true
unfolding same_parts
parts_alike first at i h =
    three_checked (same_target first.target i.target) (same_soname first.soname i.soname) (same_names first.needed i.needed) (TargetMismatch at) (SonameMismatch at) (NeededMismatch at) h

alike_parts : (first : InterfaceRecord) (at : ℕ) (i : InterfaceRecord) → alike first i ≡ true → same_parts first at i ≡ Ok tt
unfolding same_parts
alike_parts first at i h =
    three_hold (same_target first.target i.target) (same_soname first.soname i.soname) (same_names first.needed i.needed) (TargetMismatch at) (SonameMismatch at) (NeededMismatch at) h

agree_alike : (first : InterfaceRecord) (at : ℕ) (list : List InterfaceRecord) → parts_agree first at list ≡ Ok tt → list_all (alike first) list ≡ true
agree_alike first at [] h = refl
agree_alike first at (i ∷ list) h =
    let bound = bound_ok (same_parts first at i) (λ _. parts_agree first (at + 1) list) tt h in
    and_from (alike first i) (list_all (alike first) list) (parts_alike first at i bound.1) (agree_alike first (at + 1) list bound.2)

alike_agree : (first : InterfaceRecord) (at : ℕ) (list : List InterfaceRecord) → list_all (alike first) list ≡ true → parts_agree first at list ≡ Ok tt
alike_agree first at [] h = refl
alike_agree first at (i ∷ list) h =
    let parts = and_parts (alike first i) (list_all (alike first) list) h in
    ap (λ r. r >>= (λ _. parts_agree first (at + 1) list)) (alike_parts first at i parts.0) ∙ alike_agree first (at + 1) list parts.1

-- what two inputs have in common
pub record Common (a b : InterfaceRecord) : Type 0 where
  pub target : a.target ≡ b.target
  pub soname : a.soname ≡ b.soname
  pub needed : a.needed ≡ b.needed

common_of : (a b : InterfaceRecord) → alike a b ≡ true → Common a b
common_of a b h =
    let first = and_parts (same_target a.target b.target) (same_soname a.soname b.soname && same_names a.needed b.needed) h in
    let second = and_parts (same_soname a.soname b.soname) (same_names a.needed b.needed) first.1 in
    record { target = target_is a.target b.target first.0; soname = soname_is a.soname b.soname second.0; needed = names_is a.needed b.needed second.1 }

alike_moved : (a b i : InterfaceRecord) → Common a b → alike a i ≡ true → alike b i ≡ true
alike_moved a b i both h =
    let target = both.target in
    let soname = both.soname in
    let needed = both.needed in
    sym (λ j. same_target (target j) i.target && (same_soname (soname j) i.soname && same_names (needed j) i.needed)) ∙ h

same_whole : (a b : InterfaceRecord) (ss : List Symbol) → Common a b → with_symbols a ss ≡ with_symbols b ss
same_whole a b ss both =
    let target = both.target in
    let soname = both.soname in
    let needed = both.needed in
    λ j. record { soname = soname j; target = target j; needed = needed j; symbols = ss }

-- ---- the merge

abbrev finished : InterfaceRecord → Result (List Symbol) MergeCause → Result InterfaceRecord MergeCause
finished first symbols = symbols >>= (λ ss. Ok (with_symbols first ss))

pub merges_again : (xs ys : List InterfaceRecord) (i : InterfaceRecord) → IsPermutation xs ys → merged xs ≡ Ok i → merged ys ≡ Ok i
unfolding merged
merges_again [] [] i moved h = h
merges_again [] (g ∷ ys) i moved h = let long = length_permutation [] (g ∷ ys) moved in absurd (omega arith)
merges_again (f ∷ xs) [] i moved h = let long = length_permutation (f ∷ xs) [] moved in absurd (omega arith)
merges_again (f ∷ xs) (g ∷ ys) i moved h =
    let bound = bound_ok (parts_agree f 0 (f ∷ xs)) (λ _. finished f (united_each (by_name (all_symbols (f ∷ xs))))) i h in
    let later = bound_ok (united_each (by_name (all_symbols (f ∷ xs)))) (λ ss. Ok (with_symbols f ss)) i bound.2 in
    let ss = later.0 in
    let all = list_all-IsPermutation (alike f) (f ∷ xs) (g ∷ ys) moved (agree_alike f 0 (f ∷ xs) bound.1) in
    let both = common_of f g (and_parts (alike f g) (list_all (alike f) ys) all).0 in
    let parts = alike_agree g 0 (g ∷ ys) (list_all-weaker (alike f) (alike g) (λ j e. alike_moved f g j both e) (g ∷ ys) all) in
    ap (λ r. r >>= (λ _. finished g (united_each (by_name (all_symbols (g ∷ ys)))))) parts
    ∙ ap (finished g) (symbols_moved (f ∷ xs) (g ∷ ys) ss moved later.1)
    ∙ ap (λ whole. Ok whole) (sym (same_whole f g ss both))
    ∙ later.2
