-- Ascending positions, with others put among them.
use Rattle.std.proofs.Common.{◌≡◌, ℕ, ◌+◌, ◌<◌, ◌≤◌, Bool, true, ◌&&◌, List, [], ◌∷◌, nat_lt, refl, arith}
use Rattle.std.specs.Prelude.{nat_le}
use Rattle.std.specs.List.{list_all}
use Rattle.std.specs.Ordering.{nat_cmp, match_ordering}
use Rattle.std.specs.declared.cmp.Ordering.{Ordering}
use Rattle.std.specs.declared.cmp.Ordering.TheVariants.{Less, Equal, Greater}
use Rattle.std.specs.BTreeSet.{insert_key}
use Rattle.std.proofs.lemmas.Cmp.{ranked}
use Rattle.std.proofs.lemmas.Bool.{and_parts, and_from, false≢true}
use Rattle.std.proofs.lemmas.Bool.Decides.{nat_tests}
use Rattle.tbd_core.specs.Normal.{ascend_from, is_some_list, are_places}
use Rattle.tbd_core.specs.declared.symbol.TbdSymbol.{TbdSymbol}
use Rattle.tbd_core.specs.Union.{with_places, with_all_places, union}

ascend_parts : (least n p : ℕ) (ps : List ℕ) → ascend_from least n (p ∷ ps) ≡ true → (least ≤ p) × (p < n) × (ascend_from (p + 1) n ps ≡ true)
ascend_parts least n p ps h =
    let outer = and_parts (nat_le least p && nat_lt p n) (ascend_from (p + 1) n ps) h in
    let inner = and_parts (nat_le least p) (nat_lt p n) outer.0 in
    let above : nat_le least p ≡ true = inner.0 in
    let below : nat_lt p n ≡ true = inner.1 in
    (grind (arith, nat_tests), grind (arith, nat_tests), outer.1)

ascend_more : (least n p : ℕ) (ps : List ℕ) → least ≤ p → p < n → ascend_from (p + 1) n ps ≡ true → ascend_from least n (p ∷ ps) ≡ true
ascend_more least n p ps h g rest =
    let above : nat_le least p ≡ true = grind (arith, nat_tests) in
    let below : nat_lt p n ≡ true = grind (arith, nat_tests) in
    and_from (nat_le least p && nat_lt p n) (ascend_from (p + 1) n ps) (and_from (nat_le least p) (nat_lt p n) above below) rest

inserted : (least n p : ℕ) (ps : List ℕ) → least ≤ p → p < n → ascend_from least n ps ≡ true → ascend_from least n (insert_key nat_cmp ps p) ≡ true
inserted least n p [] h g up = ascend_more least n p [] h g refl
inserted least n p (q ∷ qs) h g up =
    let parts = ascend_parts least n q qs up in
    by (nat_cmp p q) refl parts.0 parts.1 parts.2 (λ later. inserted (q + 1) n p qs later g parts.2)
  where
    by : (o : Ordering) → o ≡ nat_cmp p q → least ≤ q → q < n → ascend_from (q + 1) n qs ≡ true → (q + 1 ≤ p → ascend_from (q + 1) n (insert_key nat_cmp qs p) ≡ true) → ascend_from least n (match_ordering o (p ∷ q ∷ qs) (q ∷ qs) (q ∷ insert_key nat_cmp qs p)) ≡ true
    by Less e at_least below rest later =
        let lt : p < q = ranked p q Less e in
        let next : p + 1 ≤ q = omega arith in
        ascend_more least n p (q ∷ qs) h g (ascend_more (p + 1) n q qs next below rest)
    by Equal e at_least below rest later = up
    by Greater e at_least below rest later =
        let gt : q < p = ranked p q Greater e in
        let next : q + 1 ≤ p = omega arith in
        ascend_more least n q (insert_key nat_cmp qs p) at_least below (later next)

some_inserted : (p : ℕ) (ps : List ℕ) → is_some_list (insert_key nat_cmp ps p) ≡ true
some_inserted p [] = refl
some_inserted p (q ∷ qs) =
    elim (nat_cmp p q) as (λ o. is_some_list (match_ordering o (p ∷ q ∷ qs) (q ∷ qs) (q ∷ insert_key nat_cmp qs p)) ≡ true) [ Less ↦ refl | Equal ↦ refl | Greater ↦ refl ]

-- positions of targets of which there are n, one or more
abbrev pub fit : ℕ → List ℕ → Bool
fit n places = is_some_list places && list_all (λ p. nat_lt p n) places

with_ascend : (n : ℕ) (ps more : List ℕ) → ascend_from 0 n ps ≡ true → list_all (λ p. nat_lt p n) more ≡ true → ascend_from 0 n (with_places ps more) ≡ true
with_ascend n ps [] up below = up
with_ascend n ps (p ∷ more) up below =
    let parts = and_parts (nat_lt p n) (list_all (λ p. nat_lt p n) more) below in
    let test : nat_lt p n ≡ true = parts.0 in
    let lt : p < n = grind (arith, nat_tests) in
    let least : 0 ≤ p = omega arith in
    with_ascend n (insert_key nat_cmp ps p) more (inserted 0 n p ps least lt up) parts.1

with_some : (ps more : List ℕ) → is_some_list ps ≡ true → is_some_list (with_places ps more) ≡ true
with_some ps [] h = h
with_some ps (p ∷ more) h = with_some (insert_key nat_cmp ps p) more (some_inserted p ps)

some_with : (ps more : List ℕ) → is_some_list more ≡ true → is_some_list (with_places ps more) ≡ true
some_with ps [] h = absurd (false≢true h)
some_with ps (p ∷ more) h = with_some (insert_key nat_cmp ps p) more (some_inserted p ps)

all_ascend : (n : ℕ) (ps : List ℕ) (symbols : List TbdSymbol) → ascend_from 0 n ps ≡ true → list_all (λ s. fit n s.targets) symbols ≡ true → ascend_from 0 n (with_all_places ps symbols) ≡ true
all_ascend n ps [] up h = up
all_ascend n ps (s ∷ symbols) up h =
    let parts = and_parts (fit n s.targets) (list_all (λ s. fit n s.targets) symbols) h in
    let here = and_parts (is_some_list s.targets) (list_all (λ p. nat_lt p n) s.targets) parts.0 in
    all_ascend n (with_places ps s.targets) symbols (with_ascend n ps s.targets up here.1) parts.1

all_some : (ps : List ℕ) (symbols : List TbdSymbol) → is_some_list ps ≡ true → is_some_list (with_all_places ps symbols) ≡ true
all_some ps [] h = h
all_some ps (s ∷ symbols) h = all_some (with_places ps s.targets) symbols (with_some ps s.targets h)

-- the positions of symbols that have some are some, and ascend
pub union_fits : (n : ℕ) (s : TbdSymbol) (symbols : List TbdSymbol) → list_all (λ s. fit n s.targets) (s ∷ symbols) ≡ true → are_places n (union (s ∷ symbols)) ≡ true
unfolding are_places union
union_fits n s symbols h =
    let parts = and_parts (fit n s.targets) (list_all (λ s. fit n s.targets) symbols) h in
    let here = and_parts (is_some_list s.targets) (list_all (λ p. nat_lt p n) s.targets) parts.0 in
    and_from (is_some_list (union (s ∷ symbols))) (ascend_from 0 n (union (s ∷ symbols)))
    (all_some (with_places [] s.targets) symbols (some_with [] s.targets here.0))
    (all_ascend n [] (s ∷ symbols) refl h)
