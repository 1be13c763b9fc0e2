-- Symbols put in byte order of their names, and names that stand twice.
use Rattle.std.proofs.Common.{◌≡◌, ℕ, zero, suc, ◌+◌, ◌<◌, ◌≤◌, Bool, true, false, cond, not, ◌||◌, ◌&&◌, List, [], ◌∷◌, ◌++◌, length, get_or, Option, Some, None, ◌⊎◌, inl, inr, refl, sym, ap, ◌∙◌, subst, arith}
use Rattle.std.specs.List.{list_all, count_by, All}
use Rattle.std.specs.List.Sorted.{IsPermutation}
use Rattle.std.proofs.lemmas.Bool.{false≢true, true≢false, false_from_ne_true, not_from_false, and_parts, and_from, not-true}
use Rattle.std.proofs.lemmas.List.Sums.{sum_by-cons}
use Rattle.std.proofs.lemmas.List.Sorted.{All-permutation, IsPermutation-map, IsPermutation-sym, sum_by-IsPermutation}
use Rattle.ifs_interface.specs.declared.symbol.Symbol.{Symbol}
use Rattle.ifs_interface.specs.Triple.{same_name}
use Rattle.ifs_interface.specs.Interface.{comes_before, ascends, names_of}
use Rattle.ifs_interface.proofs.Names.{same_name-is, same_name-itself, not_before_itself, before_differs, before_trans, before_of_rest}
use Rattle.ifs_text.specs.Maps.{is_among}
use Rattle.ifs_text.specs.Text.{second_after, second, insert_symbol, by_name}

-- ---- what stands in a list

abbrev Has : {X : Type 0} → X → List X → Type 0
Has x [] = ⊥
Has x (y ∷ ys) = (x ≡ y) ⊎ Has x ys

has_at : {X : Type 0} (xs : List X) (k : ℕ) (d : X) → k < length xs → Has (get_or xs k d) xs
has_at [] k d h = absurd (omega arith)
has_at (x ∷ xs) zero d h = inl refl
has_at (x ∷ xs) (suc k) d h = inr (has_at xs k d (omega arith))

has_of_all : {X : Type 0} (zs xs : List X) → All (λ x. Has x zs) xs → (x : X) → Has x xs → Has x zs
has_of_all zs [] h x e = absurd e
has_of_all zs (y ∷ ys) h x (inl e) = subst (λ z. Has z zs) (sym e) (h 0 y (omega arith))
has_of_all zs (y ∷ ys) h x (inr e) = has_of_all zs ys (λ k d lt. h (suc k) d (omega arith)) x e

-- a permutation has the same
has_moved : (xs ys : List Symbol) → IsPermutation xs ys → (s : Symbol) → Has s ys → Has s xs
has_moved xs ys moved = has_of_all xs ys (All-permutation (λ s. Has s xs) xs ys moved (λ k d lt. has_at xs k d lt))

-- a test of all names holds of the name of each symbol
test_of : (p : List ℕ → Bool) (s : Symbol) (ss : List Symbol) → list_all p (names_of ss) ≡ true → Has s ss → p s.name ≡ true
test_of p s [] h e = absurd e
test_of p s (t ∷ ts) h (inl e) = ap (λ (z : Symbol). p z.name) e ∙ (and_parts (p t.name) (list_all p (names_of ts)) h).0
test_of p s (t ∷ ts) h (inr e) = test_of p s ts (and_parts (p t.name) (list_all p (names_of ts)) h).1 e

-- ---- ascending symbols are equal where each has what the other has

not_twice : (s t : Symbol) → comes_before s.name t.name ≡ true → comes_before t.name s.name ≡ true → ⊥
not_twice s t h g = false≢true (sym (not_before_itself s.name) ∙ before_trans s.name t.name s.name h g)

not_itself : (s t : Symbol) → s ≡ t → comes_before s.name t.name ≡ true → ⊥
not_itself s t e h = false≢true (sym (not_before_itself s.name) ∙ ap (λ (z : Symbol). comes_before s.name z.name) e ∙ h)

first_same : (x y : Symbol) (xs ys : List Symbol) → list_all (comes_before x.name) (names_of xs) ≡ true → list_all (comes_before y.name) (names_of ys) ≡ true → Has x (y ∷ ys) → Has y (x ∷ xs) → x ≡ y
first_same x y xs ys f g (inl e) k = e
first_same x y xs ys f g (inr h) (inl e) = sym e
first_same x y xs ys f g (inr h) (inr k) = absurd (not_twice x y (test_of (comes_before x.name) y xs f k) (test_of (comes_before y.name) x ys g h))

behind : (s x y : Symbol) (ys : List Symbol) → comes_before x.name s.name ≡ true → x ≡ y → Has s (y ∷ ys) → Has s ys
behind s x y ys h e (inl k) = absurd (not_itself x s (e ∙ sym k) h)
behind s x y ys h e (inr k) = k

unique : (xs ys : List Symbol) → ascends (names_of xs) ≡ true → ascends (names_of ys) ≡ true → ((s : Symbol) → Has s xs → Has s ys) → ((s : Symbol) → Has s ys → Has s xs) → xs ≡ ys
unique [] [] f g there back = refl
unique [] (y ∷ ys) f g there back = absurd (back y (inl refl))
unique (x ∷ xs) [] f g there back = absurd (there x (inl refl))
unique (x ∷ xs) (y ∷ ys) f g there back =
    let front = and_parts (list_all (comes_before x.name) (names_of xs)) (ascends (names_of xs)) f in
    let other = and_parts (list_all (comes_before y.name) (names_of ys)) (ascends (names_of ys)) g in
    let same : x ≡ y = first_same x y xs ys front.0 other.0 (there x (inl refl)) (back y (inl refl)) in
    let on = λ (s : Symbol) (h : Has s xs). behind s x y ys (test_of (comes_before x.name) s xs front.0 h) same (there s (inr h)) in
    let off = λ (s : Symbol) (h : Has s ys). behind s y x xs (test_of (comes_before y.name) s ys other.0 h) (sym same) (back s (inr h)) in
    let rest : xs ≡ ys = unique xs ys front.1 other.1 on off in
    λ i. same i ∷ rest i

-- ---- symbols put in order

abbrev placed : Bool → Symbol → Symbol → List Symbol → List Symbol
placed b s t ts = cond b (t ∷ insert_symbol s ts) (s ∷ t ∷ ts)

has_placed : (b : Bool) (q s t : Symbol) (ts : List Symbol) → (Has q (insert_symbol s ts) → (q ≡ s) ⊎ Has q ts) → Has q (placed b s t ts) → (q ≡ s) ⊎ Has q (t ∷ ts)
has_placed true q s t ts rest (inl e) = inr (inl e)
has_placed true q s t ts rest (inr h) = elim (rest h) as (λ _. (q ≡ s) ⊎ Has q (t ∷ ts)) [ inl e ↦ inl e | inr k ↦ inr (inr k) ]
has_placed false q s t ts rest h = h

has_inserted : (q s : Symbol) (ts : List Symbol) → Has q (insert_symbol s ts) → (q ≡ s) ⊎ Has q ts
has_inserted q s [] h = h
has_inserted q s (t ∷ ts) h = has_placed (comes_before t.name s.name) q s t ts (has_inserted q s ts) h

put_placed : (b : Bool) (q s t : Symbol) (ts : List Symbol) → ((q ≡ s) ⊎ Has q ts → Has q (insert_symbol s ts)) → (q ≡ s) ⊎ Has q (t ∷ ts) → Has q (placed b s t ts)
put_placed true q s t ts rest (inl e) = inr (rest (inl e))
put_placed true q s t ts rest (inr (inl e)) = inl e
put_placed true q s t ts rest (inr (inr h)) = inr (rest (inr h))
put_placed false q s t ts rest h = h

put_inserted : (q s : Symbol) (ts : List Symbol) → (q ≡ s) ⊎ Has q ts → Has q (insert_symbol s ts)
put_inserted q s [] h = h
put_inserted q s (t ∷ ts) h = put_placed (comes_before t.name s.name) q s t ts (put_inserted q s ts) h

has_sorted : (q : Symbol) (ss : List Symbol) → Has q (by_name ss) → Has q ss
has_sorted q [] h = h
has_sorted q (s ∷ ss) h = elim (has_inserted q s (by_name ss) h) as (λ _. Has q (s ∷ ss)) [ inl e ↦ inl e | inr k ↦ inr (has_sorted q ss k) ]

put_sorted : (q : Symbol) (ss : List Symbol) → Has q ss → Has q (by_name ss)
put_sorted q [] h = h
put_sorted q (s ∷ ss) (inl e) = put_inserted q s (by_name ss) (inl e)
put_sorted q (s ∷ ss) (inr h) = put_inserted q s (by_name ss) (inr (put_sorted q ss h))

-- ---- their order

all_placed : (b : Bool) (p : List ℕ → Bool) (s t : Symbol) (ts : List Symbol) → p s.name ≡ true → list_all p (names_of (t ∷ ts)) ≡ true → list_all p (names_of (insert_symbol s ts)) ≡ true → list_all p (names_of (placed b s t ts)) ≡ true
all_placed true p s t ts h g rest = and_from (p t.name) (list_all p (names_of (insert_symbol s ts))) (and_parts (p t.name) (list_all p (names_of ts)) g).0 rest
all_placed false p s t ts h g rest = and_from (p s.name) (list_all p (names_of (t ∷ ts))) h g

all_inserted : (p : List ℕ → Bool) (s : Symbol) (ts : List Symbol) → p s.name ≡ true → list_all p (names_of ts) ≡ true → list_all p (names_of (insert_symbol s ts)) ≡ true
all_inserted p s [] h g = and_from (p s.name) true h refl
all_inserted p s (t ∷ ts) h g =
    all_placed (comes_before t.name s.name) p s t ts h g (all_inserted p s ts h (and_parts (p t.name) (list_all p (names_of ts)) g).1)

all_sorted : (p : List ℕ → Bool) (ss : List Symbol) → list_all p (names_of ss) ≡ true → list_all p (names_of (by_name ss)) ≡ true
all_sorted p [] h = refl
all_sorted p (s ∷ ss) h =
    let parts = and_parts (p s.name) (list_all p (names_of ss)) h in
    all_inserted p s (by_name ss) parts.0 (all_sorted p ss parts.1)

all_behind : (a b : List ℕ) (ns : List (List ℕ)) → comes_before a b ≡ true → list_all (comes_before b) ns ≡ true → list_all (comes_before a) ns ≡ true
all_behind a b [] h g = refl
all_behind a b (n ∷ ns) h g =
    let parts = and_parts (comes_before b n) (list_all (comes_before b) ns) g in
    and_from (comes_before a n) (list_all (comes_before a) ns) (before_trans a b n h parts.0) (all_behind a b ns h parts.1)

-- a name differs from others
abbrev differs : List ℕ → List (List ℕ) → Bool
differs n ns = list_all (λ m. not (same_name m n)) ns

ascends_placed : (b : Bool) (s t : Symbol) (ts : List Symbol) → comes_before t.name s.name ≡ b → same_name t.name s.name ≡ false → ascends (names_of (t ∷ ts)) ≡ true → ascends (names_of (insert_symbol s ts)) ≡ true → ascends (names_of (placed b s t ts)) ≡ true
ascends_placed true s t ts e d up rest =
    let parts = and_parts (list_all (comes_before t.name) (names_of ts)) (ascends (names_of ts)) up in
    and_from (list_all (comes_before t.name) (names_of (insert_symbol s ts))) (ascends (names_of (insert_symbol s ts))) (all_inserted (comes_before t.name) s ts e parts.0) rest
ascends_placed false s t ts e d up rest =
    let parts = and_parts (list_all (comes_before t.name) (names_of ts)) (ascends (names_of ts)) up in
    let here : comes_before s.name t.name ≡ true = before_of_rest s.name t.name e d in
    and_from (list_all (comes_before s.name) (names_of (t ∷ ts))) (ascends (names_of (t ∷ ts)))
    (and_from (comes_before s.name t.name) (list_all (comes_before s.name) (names_of ts)) here (all_behind s.name t.name (names_of ts) here parts.0)) up

ascends_inserted : (s : Symbol) (ts : List Symbol) → differs s.name (names_of ts) ≡ true → ascends (names_of ts) ≡ true → ascends (names_of (insert_symbol s ts)) ≡ true
ascends_inserted s [] d up = refl
ascends_inserted s (t ∷ ts) d up =
    let apart = and_parts (not (same_name t.name s.name)) (differs s.name (names_of ts)) d in
    let parts = and_parts (list_all (comes_before t.name) (names_of ts)) (ascends (names_of ts)) up in
    ascends_placed (comes_before t.name s.name) s t ts refl (not-true _ apart.0) up (ascends_inserted s ts apart.1 parts.1)

-- each name differs from those that follow it
abbrev pub distinct : List (List ℕ) → Bool
distinct [] = true
distinct (n ∷ ns) = differs n ns && distinct ns

ascends_sorted : (ss : List Symbol) → distinct (names_of ss) ≡ true → ascends (names_of (by_name ss)) ≡ true
ascends_sorted [] h = refl
ascends_sorted (s ∷ ss) h =
    let parts = and_parts (differs s.name (names_of ss)) (distinct (names_of ss)) h in
    ascends_inserted s (by_name ss) (all_sorted (λ m. not (same_name m s.name)) ss parts.0) (ascends_sorted ss parts.1)

-- ---- how often a name stands in a list

abbrev times : List ℕ → List (List ℕ) → ℕ
times a ns = count_by (same_name a) ns

abbrev one : Bool → ℕ
one t = cond t 1 0

times_cons : (a n : List ℕ) (ns : List (List ℕ)) → times a (n ∷ ns) ≡ one (same_name a n) + times a ns
times_cons a n ns = sum_by-cons (λ m. one (same_name a m)) n ns

pub swapped : (a b : List ℕ) → same_name a b ≡ true → same_name b a ≡ true
swapped a b h = subst (λ n. same_name n a ≡ true) (same_name-is a b h) (same_name-itself a)

pub swapped_not : (a b : List ℕ) → same_name a b ≡ false → same_name b a ≡ false
swapped_not a b h = false_from_ne_true _ (λ e. false≢true (sym h ∙ swapped b a e))

times_none : (a : List ℕ) (ns : List (List ℕ)) → differs a ns ≡ true → times a ns ≡ 0
times_none a [] h = refl
times_none a (n ∷ ns) h =
    let parts = and_parts (not (same_name n a)) (differs a ns) h in
    let zero : one (same_name a n) ≡ one false = ap one (swapped_not n a (not-true _ parts.0)) in
    let split : times a (n ∷ ns) ≡ one (same_name a n) + times a ns = times_cons a n ns in
    let rest : times a ns ≡ 0 = times_none a ns parts.1 in
    omega (arith, zero, split, rest)

differs_ascending : (n : List ℕ) (ns : List (List ℕ)) → list_all (comes_before n) ns ≡ true → differs n ns ≡ true
differs_ascending n [] h = refl
differs_ascending n (m ∷ ms) h =
    let parts = and_parts (comes_before n m) (list_all (comes_before n) ms) h in
    and_from (not (same_name m n)) (differs n ms) (not_from_false _ (swapped_not n m (before_differs n m parts.0))) (differs_ascending n ms parts.1)

distinct_ascending : (ns : List (List ℕ)) → ascends ns ≡ true → distinct ns ≡ true
distinct_ascending [] h = refl
distinct_ascending (n ∷ ns) h =
    let parts = and_parts (list_all (comes_before n) ns) (ascends ns) h in
    and_from (differs n ns) (distinct ns) (differs_ascending n ns parts.0) (distinct_ascending ns parts.1)

once_by : (t : Bool) (a n : List ℕ) (ns : List (List ℕ)) → same_name a n ≡ t → differs n ns ≡ true → times a ns ≤ 1 → one t + times a ns ≤ 1
once_by true a n ns e d rest =
    let none : times n ns ≡ 0 = times_none n ns d in
    let none_a : times a ns ≡ 0 = subst (λ m. times m ns ≡ 0) (sym (same_name-is a n e)) none in
    omega (arith, none_a)
once_by false a n ns e d rest = omega (arith, rest)

pub once : (a : List ℕ) (ns : List (List ℕ)) → distinct ns ≡ true → times a ns ≤ 1
once a [] h = omega arith
once a (n ∷ ns) h =
    let parts = and_parts (differs n ns) (distinct ns) h in
    let here = once_by (same_name a n) a n ns refl parts.0 (once a ns parts.1) in
    subst (λ k. k ≤ 1) (sym (times_cons a n ns)) here

apart_by : (t : Bool) (k : ℕ) → one t + k ≡ 0 → t ≡ false
apart_by true k h = absurd (omega (arith, h))
apart_by false k h = refl

differs_none : (n : List ℕ) (ns : List (List ℕ)) → times n ns ≡ 0 → differs n ns ≡ true
differs_none n [] h = refl
differs_none n (m ∷ ms) h =
    let split : times n (m ∷ ms) ≡ one (same_name n m) + times n ms = times_cons n m ms in
    let apart : same_name n m ≡ false = apart_by (same_name n m) (times n ms) (sym split ∙ h) in
    let rest : times n ms ≡ 0 = omega (arith, split, h) in
    and_from (not (same_name m n)) (differs n ms) (not_from_false _ (swapped_not n m apart)) (differs_none n ms rest)

fewer : (a n : List ℕ) (ns : List (List ℕ)) → times a (n ∷ ns) ≤ 1 → times a ns ≤ 1
fewer a n ns h =
    let split : times a (n ∷ ns) ≡ one (same_name a n) + times a ns = times_cons a n ns in
    omega (arith, split, h)

distinct_once : (ns : List (List ℕ)) → ((a : List ℕ) → times a ns ≤ 1) → distinct ns ≡ true
distinct_once [] h = refl
distinct_once (n ∷ ns) h =
    let mine : one (same_name n n) ≡ one true = ap one (same_name-itself n) in
    let split : times n (n ∷ ns) ≡ one (same_name n n) + times n ns = times_cons n n ns in
    let all : times n (n ∷ ns) ≤ 1 = h n in
    let none : times n ns ≡ 0 = omega (arith, mine, split, all) in
    let rest = λ (a : List ℕ). fewer a n ns (h a) in
    and_from (differs n ns) (distinct ns) (differs_none n ns none) (distinct_once ns rest)

-- names that ascend after a permutation were distinct
distinct_moved : (xs ys : List Symbol) → IsPermutation xs ys → ascends (names_of ys) ≡ true → distinct (names_of xs) ≡ true
distinct_moved xs ys moved up =
    let named = IsPermutation-map (λ (s : Symbol). s.name) xs ys moved in
    let ordered = distinct_ascending (names_of ys) up in
    distinct_once (names_of xs) (λ a. subst (λ k. k ≤ 1) (sum_by-IsPermutation (λ m. one (same_name a m)) (names_of xs) (names_of ys) named) (once a (names_of ys) ordered))

-- symbols that ascend are those before a permutation, put in order
pub sorted_is : (xs ys : List Symbol) → IsPermutation xs ys → ascends (names_of ys) ≡ true → by_name xs ≡ ys
sorted_is xs ys moved up =
    let on = λ (s : Symbol) (h : Has s (by_name xs)). has_moved ys xs (IsPermutation-sym xs ys moved) s (has_sorted s xs h) in
    let off = λ (s : Symbol) (h : Has s ys). put_sorted s xs (has_moved xs ys moved s h) in
    unique (by_name xs) ys (ascends_sorted xs (distinct_moved xs ys moved up)) up on off

-- ---- the first name that stands before it too

pub any_append : (n m : List ℕ) (ns : List (List ℕ)) → is_among n (ns ++ m ∷ []) ≡ (is_among n ns || same_name n m)
any_append n m [] = elim (same_name n m) as (λ b. (b || false) ≡ (false || b)) [ true ↦ refl | false ↦ refl ]
any_append n m (k ∷ ks) =
    ap (λ b. same_name n k || b) (any_append n m ks) ∙ elim (same_name n k) as (λ b. (b || (is_among n ks || same_name n m)) ≡ ((b || is_among n ks) || same_name n m)) [ true ↦ refl | false ↦ refl ]

abbrev fresh : List (List ℕ) → List (List ℕ) → Bool
fresh before ns = list_all (λ n. not (is_among n before)) ns

or_false : (a b : Bool) → (a || b) ≡ false → (a ≡ false) × (b ≡ false)
or_false true b h = absurd (true≢false h)
or_false false b h = (refl, h)

fresh_split : (before : List (List ℕ)) (n : List ℕ) (ns : List (List ℕ)) → fresh (before ++ n ∷ []) ns ≡ true → (fresh before ns ≡ true) × (differs n ns ≡ true)
fresh_split before n [] h = (refl, refl)
fresh_split before n (m ∷ ms) h =
    let parts = and_parts (not (is_among m (before ++ n ∷ []))) (fresh (before ++ n ∷ []) ms) h in
    let two = or_false (is_among m before) (same_name m n) (sym (any_append m n before) ∙ not-true _ parts.0) in
    let rest = fresh_split before n ms parts.1 in
    (and_from (not (is_among m before)) (fresh before ms) (not_from_false _ two.0) rest.0, and_from (not (same_name m n)) (differs n ms) (not_from_false _ two.1) rest.1)

or_none : (a b : Bool) → a ≡ false → b ≡ false → (a || b) ≡ false
or_none a b h g = ap (λ t. t || b) h ∙ g

fresh_join : (before : List (List ℕ)) (n : List ℕ) (ns : List (List ℕ)) → fresh before ns ≡ true → differs n ns ≡ true → fresh (before ++ n ∷ []) ns ≡ true
fresh_join before n [] h g = refl
fresh_join before n (m ∷ ms) h g =
    let one = and_parts (not (is_among m before)) (fresh before ms) h in
    let two = and_parts (not (same_name m n)) (differs n ms) g in
    let both : is_among m (before ++ n ∷ []) ≡ false = any_append m n before ∙ or_none _ _ (not-true _ one.0) (not-true _ two.0) in
    and_from (not (is_among m (before ++ n ∷ []))) (fresh (before ++ n ∷ []) ms) (not_from_false _ both) (fresh_join before n ms one.1 two.1)

none_by : (b : Bool) (n : List ℕ) (r : Option (List ℕ)) → cond b (Some n) r ≡ None → (b ≡ false) × (r ≡ None)
none_by true n r h = absurd (cc)
none_by false n r h = (refl, h)

distinct_after : (before ns : List (List ℕ)) → second_after before ns ≡ None → (fresh before ns ≡ true) × (distinct ns ≡ true)
distinct_after before [] h = (refl, refl)
distinct_after before (n ∷ ns) h =
    let here = none_by (is_among n before) n (second_after (before ++ n ∷ []) ns) h in
    let rest = distinct_after (before ++ n ∷ []) ns here.1 in
    let split = fresh_split before n ns rest.0 in
    (and_from (not (is_among n before)) (fresh before ns) (not_from_false _ here.0) split.0, and_from (differs n ns) (distinct ns) split.1 rest.1)

none_after : (before ns : List (List ℕ)) → fresh before ns ≡ true → distinct ns ≡ true → second_after before ns ≡ None
none_after before [] h g = refl
none_after before (n ∷ ns) h g =
    let one = and_parts (not (is_among n before)) (fresh before ns) h in
    let two = and_parts (differs n ns) (distinct ns) g in
    ap (λ b. cond b (Some n) (second_after (before ++ n ∷ []) ns)) (not-true _ one.0) ∙ none_after (before ++ n ∷ []) ns (fresh_join before n ns one.1 two.0) two.1

fresh_none : (ns : List (List ℕ)) → fresh [] ns ≡ true
fresh_none [] = refl
fresh_none (n ∷ ns) = fresh_none ns

-- no name stands twice where they ascend after a permutation
pub no_second : (xs ys : List Symbol) → IsPermutation xs ys → ascends (names_of ys) ≡ true → second (names_of xs) ≡ None
unfolding second
no_second xs ys moved up = none_after [] (names_of xs) (fresh_none (names_of xs)) (distinct_moved xs ys moved up)

-- a name that stands twice is a second one
pub a_second : (a : List ℕ) (ns : List (List ℕ)) → 1 < count_by (same_name a) ns → second ns ≡ None → ⊥
unfolding second
a_second a ns often none =
    let least : times a ns ≤ 1 = once a ns (distinct_after [] ns none).1 in
    omega (arith, least, often)
