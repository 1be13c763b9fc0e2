-- Rounds of the loops over lists, which go on as long as tokens are left.
use Rattle.std.proofs.Common.{◌≡◌, ℕ, zero, suc, ◌+◌, ◌-◌, ◌<◌, ◌≤◌, inl, inr, Bool, true, false, cond, List, [], ◌∷◌, ◌++◌, length, Option, Some, None, refl, ap, sym, ◌∙◌, arith}
use Rattle.yaml_tokens.specs.declared.token.Token.{Token}
use Rattle.yaml_nodes.specs.Front.{Front, front, Grammar, Reading, behind, Agrees}
use Rattle.yaml_nodes.specs.Lists.{begins_with, tail, next_item, go_on, listed_behind, listed, lined_behind, lined}
use Rattle.yaml_nodes.proofs.ListsAgree.{next_is}
use Rattle.yaml_nodes.proofs.Turns.{listed_turn, lined_turn}

-- a reading takes at least one token
abbrev pub Shrinks : {X : Type 0} → Reading X → Type 0
Shrinks {X} read = (ts : List Token) (r : Front X) → read ts ≡ Some r → length r.rest < length ts

pub shrinks : {X : Type 0} (Item : Grammar X) (read : Reading X) → Agrees Item read → Shrinks read
shrinks Item read a ts r h = a.shorter ts r.rest r.value (a.sound ts r h)

at_end_by : {X : Type 0} (read : Reading X) → Shrinks read → (o : Option (Front X)) → read [] ≡ o → o ≡ None
at_end_by read less None e = refl
at_end_by read less (Some r) e = absurd (omega (arith, less [] r e))

at_end : {X : Type 0} (read : Reading X) → Shrinks read → read [] ≡ None
at_end read less = at_end_by read less (read []) refl

after_item : (closes : Token → Bool) (ts left : List Token) → next_item closes ts ≡ Some left → length left ≤ length ts
after_item closes ts left h = elim (next_is closes ts left h) as (λ _. length left ≤ length ts) [
  | inl comma ↦ omega (arith, ap length comma)
  | inr shut ↦ omega (arith, ap length shut.0)
]

-- two bounds on turns that are the same behind an item
abbrev SameBehind : {X : Type 0} → Reading (List X) → Reading (List X) → ℕ → ℕ → Type 0
SameBehind one two n m = (left : List Token) → length left ≤ n → length left ≤ m → one left ≡ two left

go_same : {X : Type 0} (one two : Reading (List X)) (n m : ℕ) (x : X) (o : Option (List Token)) → ((left : List Token) → o ≡ Some left → one left ≡ two left) → go_on one x o ≡ go_on two x o
go_same one two n m x None same = refl
go_same one two n m x (Some left) same = ap (behind (x ∷ [])) (same left refl)

listed_same : {X : Type 0} (read : Reading X) → Shrinks read → (closes : Token → Bool) (one two : Reading (List X)) (n m : ℕ) → SameBehind one two n m
    → (ts : List Token) (o : Option (Front X)) → read ts ≡ o → length ts ≤ suc n → length ts ≤ suc m → listed_behind closes one o ≡ listed_behind closes two o
listed_same read less closes one two n m same ts None here fits fits' = refl
listed_same read less closes one two n m same ts (Some item) here fits fits' =
    let shorter : length item.rest < length ts = less ts item here in
    go_same one two n m item.value (next_item closes item.rest) (λ left next. below left (after_item closes item.rest left next) shorter)
  where
    below : (left : List Token) → length left ≤ length item.rest → length item.rest < length ts → one left ≡ two left
    below left le lt = same left (omega arith) (omega arith)

-- more turns than tokens change nothing
pub listed_enough : {X : Type 0} (read : Reading X) → Shrinks read → (closes : Token → Bool) (n m : ℕ) (ts : List Token) → length ts ≤ n → length ts ≤ m
    → listed read closes n ts ≡ listed read closes m ts
listed_enough read less closes zero zero ts fits fits' = refl
listed_enough read less closes zero (suc m) [] fits fits' = sym (ap (listed_behind closes (listed read closes m)) (at_end read less))
listed_enough read less closes zero (suc m) (t ∷ ts) fits fits' = absurd (omega arith)
listed_enough read less closes (suc n) zero [] fits fits' = ap (listed_behind closes (listed read closes n)) (at_end read less)
listed_enough read less closes (suc n) zero (t ∷ ts) fits fits' = absurd (omega arith)
listed_enough read less closes (suc n) (suc m) ts fits fits' =
    ap (λ r. cond (begins_with closes ts) (Some (front [] (tail ts))) r)
    (listed_same read less closes (listed read closes n) (listed read closes m) n m (listed_enough read less closes n m) ts (read ts) refl fits fits')

-- the list goes on behind an item
pub listed_falls : {X : Type 0} (read : Reading X) → Shrinks read → (closes : Token → Bool) (item : Front X) (ts after more : List Token)
    → Some item ≡ read ts → after ≡ item.rest → Some more ≡ next_item closes after → length more < length ts
listed_falls read less closes item ts after more here rest next =
    let shorter : length item.rest < length ts = less ts item (sym here) in
    let same : length after ≡ length item.rest = ap length rest in
    let fits : length more ≤ length after = after_item closes after more (sym next) in
    omega arith

pub listed_round : {X : Type 0} (read : Reading X) → Shrinks read → (closes : Token → Bool) (xs xs' : List X) (x : X) (item : Front X) (ts after more : List Token) (all : Option (Front (List X)))
    → begins_with closes ts ≡ false → Some item ≡ read ts → x ≡ item.value → after ≡ item.rest → Some more ≡ next_item closes after → xs' ≡ xs ++ x ∷ []
    → all ≡ behind xs (listed read closes (length ts) ts) → all ≡ behind xs' (listed read closes (length more) more)
listed_round read less closes xs xs' x item ts after more all isnt here value rest next pushed so_far =
    let falls : length more < length ts = listed_falls read less closes item ts after more here rest next in
    let start : length ts ≡ length ts - 0 = omega arith in
    let fits : length more ≤ length ts - (0 + 1) = omega arith in
    listed_turn read closes (length ts) 0 xs xs' x item ts after more all (omega arith) isnt here value rest next pushed (so_far ∙ ap (λ n. behind xs (listed read closes n ts)) start)
    ∙ ap (behind xs') (listed_enough read less closes (length ts - (0 + 1)) (length more) more fits (omega arith))

-- lines
tail_less : (ts : List Token) → length (tail ts) ≤ length ts
tail_less [] = omega arith
tail_less (t ∷ ts) = omega arith

lined_same : {X : Type 0} (read : Reading X) → Shrinks read → (goes_on : List Token → Bool) (one two : Reading (List X)) (n m : ℕ) → SameBehind one two n m
    → (ts : List Token) (o : Option (Front X)) → read ts ≡ o → length ts ≤ suc n → length ts ≤ suc m → lined_behind goes_on one o ≡ lined_behind goes_on two o
lined_same read less goes_on one two n m same ts None here fits fits' = refl
lined_same read less goes_on one two n m same ts (Some item) here fits fits' =
    let shorter : length item.rest < length ts = less ts item here in
    let below : length (tail item.rest) ≤ length item.rest = tail_less item.rest in
    ap (λ r. cond (goes_on item.rest) (behind (item.value ∷ []) r) (Some (front (item.value ∷ []) item.rest))) (same (tail item.rest) (omega arith) (omega arith))

pub lined_enough : {X : Type 0} (read : Reading X) → Shrinks read → (goes_on : List Token → Bool) (n m : ℕ) (ts : List Token) → length ts ≤ n → length ts ≤ m
    → lined read goes_on n ts ≡ lined read goes_on m ts
lined_enough read less goes_on zero zero ts fits fits' = refl
lined_enough read less goes_on zero (suc m) [] fits fits' = sym (ap (lined_behind goes_on (lined read goes_on m)) (at_end read less))
lined_enough read less goes_on zero (suc m) (t ∷ ts) fits fits' = absurd (omega arith)
lined_enough read less goes_on (suc n) zero [] fits fits' = ap (lined_behind goes_on (lined read goes_on n)) (at_end read less)
lined_enough read less goes_on (suc n) zero (t ∷ ts) fits fits' = absurd (omega arith)
lined_enough read less goes_on (suc n) (suc m) ts fits fits' =
    lined_same read less goes_on (lined read goes_on n) (lined read goes_on m) n m (lined_enough read less goes_on n m) ts (read ts) refl fits fits'

-- the lines go on behind an item
pub lined_falls : {X : Type 0} (read : Reading X) → Shrinks read → (item : Front X) (ts after more : List Token)
    → Some item ≡ read ts → after ≡ item.rest → more ≡ tail after → length more < length ts
lined_falls read less item ts after more here rest left =
    let shorter : length item.rest < length ts = less ts item (sym here) in
    let same : length after ≡ length item.rest = ap length rest in
    let fits : length (tail after) ≤ length after = tail_less after in
    let left_is : length more ≡ length (tail after) = ap length left in
    omega arith

pub lined_round : {X : Type 0} (read : Reading X) → Shrinks read → (goes_on : List Token → Bool) (xs xs' : List X) (x : X) (item : Front X) (ts after more : List Token) (all : Option (Front (List X)))
    → Some item ≡ read ts → x ≡ item.value → after ≡ item.rest → goes_on after ≡ true → xs' ≡ xs ++ x ∷ [] → more ≡ tail after
    → all ≡ behind xs (lined read goes_on (length ts) ts) → all ≡ behind xs' (lined read goes_on (length more) more)
lined_round read less goes_on xs xs' x item ts after more all here value rest test pushed left so_far =
    let falls : length more < length ts = lined_falls read less item ts after more here rest left in
    let start : length ts ≡ length ts - 0 = omega arith in
    let fits : length more ≤ length ts - (0 + 1) = omega arith in
    lined_turn read goes_on (length ts) 0 xs xs' x item ts after more all (omega arith) here value rest test pushed left (so_far ∙ ap (λ n. behind xs (lined read goes_on n ts)) start)
    ∙ ap (behind xs') (lined_enough read less goes_on (length ts - (0 + 1)) (length more) more fits (omega arith))
