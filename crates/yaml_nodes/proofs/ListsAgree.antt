-- Readings of lists give just the lists that the grammar says.
use Rattle.std.proofs.Common.{◌≡◌, ℕ, zero, suc, ◌<◌, ◌≤◌, ◌⊎◌, inl, inr, Bool, true, false, cond, List, [], ◌∷◌, length, Option, Some, None, refl, ap, sym, subst, ◌∙◌, arith}
use Rattle.yaml_tokens.specs.declared.token.Token.{Token}
use Rattle.yaml_tokens.specs.declared.token.Token.TheVariants as token
use Rattle.yaml_nodes.specs.Front.{Front, front, Grammar, Reading, behind, Agrees}
use Rattle.yaml_nodes.specs.Lists.{Listed, Lined, end, last, more, final, next, begins_with, tail, next_item, go_on, listed_behind, listed, lined_behind, lined}
use Rattle.yaml_nodes.proofs.Fronts.{same_some, behind_from, chosen}

-- a test that passes the one token that closes a list
pub record Closing (close : Token) (closes : Token → Bool) : Type 0 where
  pub does : closes close ≡ true
  pub alone : (t : Token) → closes t ≡ true → t ≡ close
  pub stays : (rest : List Token) → next_item closes (close ∷ rest) ≡ Some (close ∷ rest)

pub next_is : (closes : Token → Bool) (ts left : List Token) → next_item closes ts ≡ Some left → (ts ≡ token.Comma ∷ left) ⊎ ((ts ≡ left) × (begins_with closes ts ≡ true))
next_is closes (token.Comma ∷ rest) left h = inl (ap (λ w. token.Comma ∷ w) (same_some rest left h))
next_is closes ts left h = inr (chosen (begins_with closes ts) ts left h)

closed_is : {close : Token} {closes : Token → Bool} (c : Closing close closes) (ts : List Token) → begins_with closes ts ≡ true → ts ≡ close ∷ tail ts
closed_is c [] h = absurd (cc)
closed_is c (t ∷ rest) h = ap (λ w. w ∷ rest) (c.alone t h)

closed : {X : Type 0} (read : Reading X) (close : Token) (closes : Token → Bool) (c : Closing close closes) (n : ℕ) (rest : List Token) → 0 < n → listed read closes n (close ∷ rest) ≡ Some (front [] rest)
closed read close closes c zero rest h = absurd (omega arith)
closed read close closes c (suc n) rest h = ap (λ t. cond t (Some (front [] rest)) (listed_behind closes (listed read closes n) (read (close ∷ rest)))) c.does

-- the reading behind an item
item_read : {X : Type 0} (read : Reading X) (closes : Token → Bool) (n : ℕ) (x : X) (ts after left : List Token) → begins_with closes ts ≡ false → read ts ≡ Some (front x after)
    → next_item closes after ≡ Some left → listed read closes (suc n) ts ≡ behind (x ∷ []) (listed read closes n left)
item_read read closes n x ts after left isnt here behind_it =
    ap (λ t. cond t (Some (front [] (tail ts))) (listed_behind closes (listed read closes n) (read ts))) isnt
    ∙ ap (λ r. listed_behind closes (listed read closes n) r) here
    ∙ ap (λ r. go_on (listed read closes n) x r) behind_it

pub listed_complete : {X : Type 0} (Item : Grammar X) (read : Reading X) (a : Agrees Item read) (close : Token) (closes : Token → Bool) (c : Closing close closes)
    → ((ts rest : List Token) (x : X) → Item ts x rest → begins_with closes ts ≡ false)
    → (n : ℕ) (ts rest : List Token) (xs : List X) → Listed Item close ts xs rest → length ts ≤ n → listed read closes n ts ≡ Some (front xs rest)
listed_complete Item read a close closes c starts n ts rest xs end le = closed read close closes c n rest (omega arith)
listed_complete Item read a close closes c starts zero ts rest xs (last {x = x} h) le = absurd (omega (arith, a.shorter ts (close ∷ rest) x h))
listed_complete Item read a close closes c starts (suc n) ts rest xs (last {x = x} h) le =
    let some : 0 < n = omega (arith, a.shorter ts (close ∷ rest) x h) in
    item_read read closes n x ts (close ∷ rest) (close ∷ rest) (starts ts (close ∷ rest) x h) (a.complete ts (close ∷ rest) x h) (c.stays rest)
    ∙ ap (behind (x ∷ [])) (closed read close closes c n rest some)
listed_complete Item read a close closes c starts zero ts rest xs (more {more = left} {x = x} h g) le = absurd (omega (arith, a.shorter ts (token.Comma ∷ left) x h))
listed_complete Item read a close closes c starts (suc n) ts rest xs (more {more = left} {x = x} {xs = ys} h g) le =
    let fits : length left ≤ n = omega (arith, a.shorter ts (token.Comma ∷ left) x h) in
    item_read read closes n x ts (token.Comma ∷ left) left (starts ts (token.Comma ∷ left) x h) (a.complete ts (token.Comma ∷ left) x h) refl
    ∙ ap (behind (x ∷ [])) (listed_complete Item read a close closes c starts n left rest ys g fits)

pub listed_shorter : {X : Type 0} (Item : Grammar X) (read : Reading X) (a : Agrees Item read) (close : Token) (ts rest : List Token) (xs : List X) → Listed Item close ts xs rest → length rest < length ts
listed_shorter Item read a close ts rest xs end = omega arith
listed_shorter Item read a close ts rest xs (last {x = x} h) = omega (arith, a.shorter ts (close ∷ rest) x h)
listed_shorter Item read a close ts rest xs (more {more = left} {x = x} {xs = ys} h g) =
    omega (arith, a.shorter ts (token.Comma ∷ left) x h, listed_shorter Item read a close left rest ys g)

-- what follows an item that was read
followed : {X : Type 0} (Item : Grammar X) (read : Reading X) (close : Token) (closes : Token → Bool) (c : Closing close closes) (n : ℕ) (ts left : List Token) (item : Front X) (s : Front (List X))
    → Item ts item.value item.rest → next_item closes item.rest ≡ Some left → listed read closes n left ≡ Some s → Listed Item close left s.value s.rest
    → Listed Item close ts (item.value ∷ s.value) s.rest
followed {X} Item read close closes c n ts left item s here behind_it reads rest = elim (next_is closes item.rest left behind_it) as (λ _. Listed Item close ts (item.value ∷ s.value) s.rest) [
  | inl comma ↦
      let P : List Token → Type 0 = λ w. Item ts item.value w in
      more (subst P comma here) rest
  | inr shut ↦
      let is : left ≡ close ∷ tail left = closed_is c left (ap (begins_with closes) (sym shut.0) ∙ shut.1) in
      let P : List Token → Type 0 = λ w. Item ts item.value w in
      let some : 0 < n = stands n reads in
      let e : front [] (tail left) ≡ s = same_some (front [] (tail left)) s (sym (closed read close closes c n (tail left) some) ∙ ap (listed read closes n) (sym is) ∙ reads) in
      let Q : Front (List X) → Type 0 = λ r. Listed Item close ts (item.value ∷ r.value) r.rest in
      subst Q e (last (subst P (shut.0 ∙ is) here))
]
  where
    stands : (k : ℕ) → listed read closes k left ≡ Some s → 0 < k
    stands zero h = absurd (cc)
    stands (suc k) h = omega arith

pub listed_sound : {X : Type 0} (Item : Grammar X) (read : Reading X) (a : Agrees Item read) (close : Token) (closes : Token → Bool) (c : Closing close closes)
    → (n : ℕ) (ts : List Token) (r : Front (List X)) → listed read closes n ts ≡ Some r → Listed Item close ts r.value r.rest
listed_sound Item read a close closes c zero ts r h = absurd (cc)
listed_sound {X} Item read a close closes c (suc n) ts r h = by_test (listed_sound Item read a close closes c n) (begins_with closes ts) refl
  where
    P : Front (List X) → Type 0
    P w = Listed Item close ts w.value w.rest

    Below : Type 0
    Below = (ts : List Token) (r : Front (List X)) → listed read closes n ts ≡ Some r → Listed Item close ts r.value r.rest

    by_next : Below → (item : Front X) → read ts ≡ Some item → (o : Option (List Token)) → next_item closes item.rest ≡ o → go_on (listed read closes n) item.value o ≡ Some r → P r
    by_next below item here None e h = absurd (cc)
    by_next below item here (Some left) e h =
        let s = behind_from (item.value ∷ []) (listed read closes n left) r h in
        subst P s.2 (followed Item read close closes c n ts left item s.0 (a.sound ts item here) e s.1 (below left s.0 s.1))

    by_item : Below → (o : Option (Front X)) → read ts ≡ o → listed_behind closes (listed read closes n) o ≡ Some r → P r
    by_item below None e h = absurd (cc)
    by_item below (Some item) e h = by_next below item e (next_item closes item.rest) refl h

    by_test : Below → (b : Bool) → begins_with closes ts ≡ b → P r
    by_test below true e =
        let is : ts ≡ close ∷ tail ts = closed_is c ts e in
        let same : front [] (tail ts) ≡ r = same_some (front [] (tail ts)) r (sym (ap (λ t. cond t (Some (front [] (tail ts))) (listed_behind closes (listed read closes n) (read ts))) e) ∙ h) in
        let Q : List Token → Type 0 = λ w. Listed Item close w [] (tail ts) in
        let here : Q (close ∷ tail ts) = end in
        subst P same (subst Q (sym is) here)
    by_test below false e = by_item below (read ts) refl (sym (ap (λ t. cond t (Some (front [] (tail ts))) (listed_behind closes (listed read closes n) (read ts))) e) ∙ h)

-- the reading of lines behind an item
line_read : {X : Type 0} (read : Reading X) (goes_on : List Token → Bool) (n : ℕ) (x : X) (ts after : List Token) (b : Bool) → read ts ≡ Some (front x after) → goes_on after ≡ b
    → lined read goes_on (suc n) ts ≡ cond b (behind (x ∷ []) (lined read goes_on n (tail after))) (Some (front (x ∷ []) after))
line_read read goes_on n x ts after b here test =
    ap (λ r. lined_behind goes_on (lined read goes_on n) r) here
    ∙ ap (λ t. cond t (behind (x ∷ []) (lined read goes_on n (tail after))) (Some (front (x ∷ []) after))) test

pub lined_complete : {X : Type 0} (Item : Grammar X) (read : Reading X) (a : Agrees Item read) (goes_on : List Token → Bool)
    → (n : ℕ) (ts rest : List Token) (xs : List X) → Lined Item goes_on ts xs rest → length ts ≤ n → lined read goes_on n ts ≡ Some (front xs rest)
lined_complete Item read a goes_on zero ts rest xs (final {x = x} h e) le = absurd (omega (arith, a.shorter ts rest x h))
lined_complete Item read a goes_on (suc n) ts rest xs (final {x = x} h e) le = line_read read goes_on n x ts rest false (a.complete ts rest x h) e
lined_complete Item read a goes_on zero ts rest xs (next {more = left} {x = x} {column = c} h e g) le = absurd (omega (arith, a.shorter ts (token.Line c ∷ left) x h))
lined_complete Item read a goes_on (suc n) ts rest xs (next {more = left} {x = x} {xs = ys} {column = c} h e g) le =
    let fits : length left ≤ n = omega (arith, a.shorter ts (token.Line c ∷ left) x h) in
    line_read read goes_on n x ts (token.Line c ∷ left) true (a.complete ts (token.Line c ∷ left) x h) e
    ∙ ap (behind (x ∷ [])) (lined_complete Item read a goes_on n left rest ys g fits)

pub lined_shorter : {X : Type 0} (Item : Grammar X) (read : Reading X) (a : Agrees Item read) (goes_on : List Token → Bool) (ts rest : List Token) (xs : List X)
    → Lined Item goes_on ts xs rest → length rest < length ts
lined_shorter Item read a goes_on ts rest xs (final {x = x} h e) = a.shorter ts rest x h
lined_shorter Item read a goes_on ts rest xs (next {more = left} {x = x} {xs = ys} {column = c} h e g) =
    omega (arith, a.shorter ts (token.Line c ∷ left) x h, lined_shorter Item read a goes_on left rest ys g)

-- lists go on only with a line
abbrev pub OnLines : (List Token → Bool) → Type 0
OnLines goes_on = (ts : List Token) → goes_on ts ≡ true → (column : ℕ) × (ts ≡ token.Line column ∷ tail ts)

pub lined_sound : {X : Type 0} (Item : Grammar X) (read : Reading X) (a : Agrees Item read) (goes_on : List Token → Bool) → OnLines goes_on
    → (n : ℕ) (ts : List Token) (r : Front (List X)) → lined read goes_on n ts ≡ Some r → Lined Item goes_on ts r.value r.rest
lined_sound Item read a goes_on on zero ts r h = absurd (cc)
lined_sound {X} Item read a goes_on on (suc n) ts r h = by_item (lined_sound Item read a goes_on on n) (read ts) refl h
  where
    P : Front (List X) → Type 0
    P w = Lined Item goes_on ts w.value w.rest

    Below : Type 0
    Below = (ts : List Token) (r : Front (List X)) → lined read goes_on n ts ≡ Some r → Lined Item goes_on ts r.value r.rest

    by_test : Below → (item : Front X) → read ts ≡ Some item → (b : Bool) → goes_on item.rest ≡ b
        → cond b (behind (item.value ∷ []) (lined read goes_on n (tail item.rest))) (Some (front (item.value ∷ []) item.rest)) ≡ Some r → P r
    by_test below item here false e h = subst P (same_some (front (item.value ∷ []) item.rest) r h) (final (a.sound ts item here) e)
    by_test below item here true e h =
        let line = on item.rest e in
        let s = behind_from (item.value ∷ []) (lined read goes_on n (tail item.rest)) r h in
        let Q : List Token → Type 0 = λ w. Item ts item.value w in
        let T : List Token → Type 0 = λ w. goes_on w ≡ true in
        subst P s.2 (next (subst Q line.1 (a.sound ts item here)) (subst T line.1 e) (below (tail item.rest) s.0 s.1))

    by_item : Below → (o : Option (Front X)) → read ts ≡ o → lined_behind goes_on (lined read goes_on n) o ≡ Some r → P r
    by_item below None e h = absurd (cc)
    by_item below (Some item) e h = by_test below item e (goes_on item.rest) refl h
