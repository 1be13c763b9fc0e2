-- The reading of an element gives just the element that stands there.
use Rattle.std.proofs.Common.{◌≡◌, ℕ, zero, suc, ◌+◌, ◌⊎◌, inl, inr, Bool, true, false, cond, not, ◌&&◌, ◌||◌, List, [], ◌∷◌, drop, Option, Some, None, refl, ap, sym, subst, ◌∙◌, arith}
use Rattle.std.specs.Prelude.{nat_le, ◌==◌, option_map}
use Rattle.std.specs.Str.{byte}
use Rattle.std.proofs.lemmas.Bool.{and_parts, eqb-true}
use Rattle.ifs_edit.specs.declared.element.Element.{Element}
use Rattle.ifs_edit.specs.declared.element.Element.TheVariants.{Any, One, Byte, In, NotIn}
use Rattle.ifs_edit.specs.Glob.{is_any, is_in, stands_for}
use Rattle.ifs_edit.specs.Elements as read
use Rattle.ifs_edit.specs.Elements.{Set, Item, Front, item_at, item_then, items_from, longer, with_span, set_of, bracketed, element_at}
use Rattle.ifs_edit.specs.Pattern.{Bytes, within, closes, ranges, negates, begins, escape, is_special, Items, closed, range, IsSet, OneByte, any, escaped, in_set, outside, itself, one_byte}
use Rattle.ifs_edit.specs.Pattern as pattern

-- ---- what is read, taken apart

abbrev some_or : {X : Type 0} → X → Option X → X
some_or x None = x
some_or x (Some y) = y

pub same_some : {X : Type 0} (x y : X) → Some x ≡ Some y → x ≡ y
same_some x y e = ap (some_or x) e

pub mapped_from : {X Y : Type 0} (f : X → Y) (o : Option X) (y : Y) → option_map f o ≡ Some y → (x : X) × (o ≡ Some x) × (f x ≡ y)
mapped_from f None y h = absurd (cc)
mapped_from f (Some x) y h = (x, refl, same_some (f x) y h)

pub drop_more : (n b : ℕ) (bs : List ℕ) → drop (n + 1) (b ∷ bs) ≡ drop n bs
drop_more n b bs = let same : n + 1 ≡ suc n = omega arith in ap (λ k. drop k (b ∷ bs)) same

not_either : (x y : Bool) → (x || y) ≡ false → (x ≡ false) × (y ≡ false)
not_either true y h = absurd (cc)
not_either false y h = (refl, h)

-- ---- the items of a set

abbrev ItemsRead : List ℕ → List ℕ → Set → Type 0
ItemsRead ts bytes set = Items ts (is_in set.0) (drop set.1 bytes)

single_sound : (b : ℕ) (bs : List ℕ) → closes b ≡ false → ranges bs ≡ false → ((s : Set) → items_from 0 bs ≡ Some s → ItemsRead bs bs s)
    → (set : Set) → item_then (Some (read.single b)) (λ k. items_from k bs) ≡ Some set → ItemsRead (b ∷ bs) (b ∷ bs) set
single_sound b bs h g below set e =
    let s = mapped_from (with_span (read.single b).0) (items_from 0 bs) set e in
    let P : Set → Type 0 = λ w. ItemsRead (b ∷ bs) (b ∷ bs) w in
    let Q : List ℕ → Type 0 = λ w. Items (b ∷ bs) (λ x. within b b x || is_in s.0.0 x) w in
    subst P s.2 (subst Q (sym (drop_more s.0.1 b bs)) (pattern.single h g (below s.0 s.1)))

range_sound : (b d c : ℕ) (rest : List ℕ) → closes b ≡ false → (d == byte "-" && not (closes c)) ≡ true
    → ((s : Set) → items_from 2 (d ∷ c ∷ rest) ≡ Some s → ItemsRead rest (d ∷ c ∷ rest) s)
    → (set : Set) → item_then (read.range b c) (λ k. items_from k (d ∷ c ∷ rest)) ≡ Some set
    → ItemsRead (b ∷ d ∷ c ∷ rest) (b ∷ d ∷ c ∷ rest) set
range_sound b d c rest h g below set e = by_order (nat_le b c) refl e
  where
    item : Item
    item = (record { first = b; last = c }, 2)

    not_closing : (x : Bool) → not x ≡ true → x ≡ false
    not_closing true e = absurd (cc)
    not_closing false e = refl

    by_order : (t : Bool) → nat_le b c ≡ t → item_then (cond t (Some item) None) (λ k. items_from k (d ∷ c ∷ rest)) ≡ Some set
        → ItemsRead (b ∷ d ∷ c ∷ rest) (b ∷ d ∷ c ∷ rest) set
    by_order false o e = absurd (cc)
    by_order true o e =
        let s = mapped_from (with_span item.0) (items_from 2 (d ∷ c ∷ rest)) set e in
        let parts = and_parts (d == byte "-") (not (closes c)) g in
        let dash : d ≡ byte "-" = eqb-true d (byte "-") parts.0 in
        let P : Set → Type 0 = λ w. ItemsRead (b ∷ d ∷ c ∷ rest) (b ∷ d ∷ c ∷ rest) w in
        let Q : List ℕ → Type 0 = λ w. Items (b ∷ d ∷ c ∷ rest) (λ x. within b c x || is_in s.0.0 x) w in
        let R : ℕ → Type 0 = λ w. Items (b ∷ w ∷ c ∷ rest) (λ x. within b c x || is_in s.0.0 x) (drop s.0.1 (d ∷ c ∷ rest)) in
        subst P s.2 (subst Q (sym (drop_more s.0.1 b (d ∷ c ∷ rest))) (subst R (sym dash) (range h (not_closing (closes c) parts.1) o (below s.0 s.1))))

abbrev EmptySet : Set
EmptySet = ([], 1)

closed_sound : (b : ℕ) (bs : List ℕ) (set : Set) → closes b ≡ true → EmptySet ≡ set → ItemsRead (b ∷ bs) (b ∷ bs) set
closed_sound b bs set h e =
    let P : Set → Type 0 = λ w. ItemsRead (b ∷ bs) (b ∷ bs) w in
    let Q : ℕ → Type 0 = λ w. Items (w ∷ bs) (λ x. false) bs in
    subst P e (subst Q (sym (eqb-true b (byte "]") h)) closed)

-- the item at the front, where the set isn't closed
item_sound : (b : ℕ) (bs : List ℕ) → closes b ≡ false → ((s : Set) → items_from 0 bs ≡ Some s → ItemsRead bs bs s)
    → ((s : Set) → items_from 2 bs ≡ Some s → ItemsRead (drop 2 bs) bs s)
    → (set : Set) → item_then (item_at b bs) (λ k. items_from k bs) ≡ Some set → ItemsRead (b ∷ bs) (b ∷ bs) set
item_sound b [] h one two set e = single_sound b [] h refl one set e
item_sound b (d ∷ []) h one two set e = single_sound b (d ∷ []) h refl one set e
item_sound b (d ∷ c ∷ rest) h one two set e = by_range (d == byte "-" && not (closes c)) refl e
  where
    by_range : (t : Bool) → (d == byte "-" && not (closes c)) ≡ t
        → item_then (cond t (read.range b c) (Some (read.single b))) (λ k. items_from k (d ∷ c ∷ rest)) ≡ Some set
        → ItemsRead (b ∷ d ∷ c ∷ rest) (b ∷ d ∷ c ∷ rest) set
    by_range true g e = range_sound b d c rest h g two set e
    by_range false g e = single_sound b (d ∷ c ∷ rest) h g one set e

items_sound : (ts : List ℕ) (k : ℕ) (set : Set) → items_from k ts ≡ Some set → ItemsRead (drop k ts) ts set
items_sound [] zero set h = absurd (cc)
items_sound [] (suc k) set h = absurd (cc)
items_sound (b ∷ bs) (suc k) set h =
    let s = mapped_from longer (items_from k bs) set h in
    let P : Set → Type 0 = λ w. ItemsRead (drop k bs) (b ∷ bs) w in
    let Q : List ℕ → Type 0 = λ w. Items (drop k bs) (is_in s.0.0) w in
    subst P s.2 (subst Q (sym (drop_more s.0.1 b bs)) (items_sound bs k s.0 s.1))
items_sound (b ∷ bs) zero set h = by_close (items_sound bs 0) (items_sound bs 2) (closes b) refl h
  where
    by_close : ((s : Set) → items_from 0 bs ≡ Some s → ItemsRead bs bs s) → ((s : Set) → items_from 2 bs ≡ Some s → ItemsRead (drop 2 bs) bs s)
        → (t : Bool) → closes b ≡ t → cond t (Some EmptySet) (item_then (item_at b bs) (λ k. items_from k bs)) ≡ Some set → ItemsRead (b ∷ bs) (b ∷ bs) set
    by_close one two true e h = closed_sound b bs set e (same_some EmptySet set h)
    by_close one two false e h = item_sound b bs e one two set h

pub record SetRead (ts rest : List ℕ) (has : Bytes) (o : Option Set) : Type 0 where
  pub set : Set
  pub is : o ≡ Some set
  pub same : (b : ℕ) → is_in set.0 b ≡ has b
  pub left : drop set.1 ts ≡ rest

item_single : (a : ℕ) (bs : List ℕ) → ranges bs ≡ false → item_at a bs ≡ Some (read.single a)
item_single a [] h = refl
item_single a (d ∷ []) h = refl
item_single a (d ∷ c ∷ rest) h = ap (λ t. cond t (read.range a c) (Some (read.single a))) h

items_complete : (ts rest : List ℕ) (has : Bytes) → Items ts has rest → SetRead ts rest has (items_from 0 ts)
items_complete ts rest has closed = record { set = EmptySet; is = refl; same = λ b. refl; left = refl }
items_complete ts rest has (pattern.single {a = a} {ts = bs} {has = others} h g items) =
    let r = items_complete bs rest others items in
    let s = r.set in
    let item = read.single a in
    record {
      set = with_span item.0 s;
      is = ap (λ t. cond t (Some EmptySet) (item_then (item_at a bs) (λ k. items_from k bs))) h
          ∙ ap (λ o. item_then o (λ k. items_from k bs)) (item_single a bs g) ∙ ap (option_map (with_span item.0)) r.is;
      same = λ b. ap (λ t. within a a b || t) (r.same b);
      left = drop_more s.1 a bs ∙ r.left;
    }
items_complete ts rest has (range {a = a} {c = c} {ts = bs} {has = others} h g o items) =
    let r = items_complete bs rest others items in
    let s = r.set in
    let item : Item = (record { first = a; last = c }, 2) in
    let all = byte "-" ∷ c ∷ bs in
    record {
      set = with_span item.0 (longer (longer s));
      is = ap (λ t. cond t (Some EmptySet) (item_then (item_at a all) (λ k. items_from k all))) h
          ∙ ap (λ t. item_then (cond (not t) (read.range a c) (Some (read.single a))) (λ k. items_from k all)) g
          ∙ ap (λ t. item_then (cond t (Some item) None) (λ k. items_from k all)) o
          ∙ ap (λ x. option_map (with_span item.0) (option_map longer (option_map longer x))) r.is;
      same = λ b. ap (λ t. within a c b || t) (r.same b);
      left = drop_more (s.1 + 1 + 1) a all ∙ drop_more (s.1 + 1) (byte "-") (c ∷ bs) ∙ drop_more s.1 c bs ∙ r.left;
    }

abbrev SetStands : List ℕ → Set → Type 0
SetStands ts set = IsSet ts (is_in set.0) (drop set.1 ts)

set_sound : (ts : List ℕ) (set : Set) → set_of ts ≡ Some set → SetStands ts set
set_sound [] set h = absurd (cc)
set_sound (b ∷ bs) set h = by_close (closes b) refl h
  where
    by_close : (t : Bool) → closes b ≡ t → cond t None (items_from 0 (b ∷ bs)) ≡ Some set → SetStands (b ∷ bs) set
    by_close true e h = absurd (cc)
    by_close false e h = (e, items_sound (b ∷ bs) 0 set h)

set_complete : (ts rest : List ℕ) (has : Bytes) → IsSet ts has rest → SetRead ts rest has (set_of ts)
set_complete [] rest has h = let r = items_complete [] rest has h.1 in absurd (cc (r.is))
set_complete (b ∷ bs) rest has h =
    let r = items_complete (b ∷ bs) rest has h.1 in
    record { set = r.set; is = ap (λ t. cond t None (items_from 0 (b ∷ bs))) h.0 ∙ r.is; same = r.same; left = r.left }

-- ---- an element

-- the element of a star, or one of one byte
abbrev pub Stands : List ℕ → Element → List ℕ → Type 0
Stands ts e rest = ((e ≡ Any) × (ts ≡ byte "*" ∷ rest)) ⊎ ((is_any e ≡ false) × OneByte ts (stands_for e) rest)

abbrev FrontStands : List ℕ → List ℕ → Front → Type 0
FrontStands ts bs front = Stands ts front.0 (drop front.1 bs)

bracket_sound : (bs : List ℕ) (front : Front) → bracketed bs ≡ Some front → FrontStands (byte "[" ∷ bs) bs front
bracket_sound [] front h = absurd (cc)
bracket_sound (t ∷ ts) front h = by_turn (negates t) refl h
  where
    turned : Set → Front
    turned set = (NotIn set.0, set.1 + 1)

    plain : Set → Front
    plain set = (In set.0, set.1)

    P : Front → Type 0
    P w = FrontStands (byte "[" ∷ t ∷ ts) (t ∷ ts) w

    by_turn : (b : Bool) → negates t ≡ b → cond b (option_map turned (set_of ts)) (option_map plain (set_of (t ∷ ts))) ≡ Some front → P front
    by_turn true e h =
        let s = mapped_from turned (set_of ts) front h in
        let Q : List ℕ → Type 0 = λ w. OneByte (byte "[" ∷ t ∷ ts) (λ x. not (is_in s.0.0 x)) w in
        subst P s.2 (inr (refl, subst Q (sym (drop_more s.0.1 t ts)) (outside e (set_sound ts s.0 s.1))))
    by_turn false e h =
        let s = mapped_from plain (set_of (t ∷ ts)) front h in
        subst P s.2 (inr (refl, in_set e (set_sound (t ∷ ts) s.0 s.1)))

escape_sound : (bs : List ℕ) (front : Front) → read.escaped bs ≡ Some front → FrontStands (escape ∷ bs) bs front
escape_sound [] front h = absurd (cc)
escape_sound (c ∷ rest) front h =
    let it : Front = (Byte c, 1) in
    let P : Front → Type 0 = λ w. FrontStands (escape ∷ c ∷ rest) (c ∷ rest) w in
    subst P (same_some it front h) (inr (refl, escaped))

pub front_sound : (b : ℕ) (bs : List ℕ) (front : Front) → element_at b bs ≡ Some front → FrontStands (b ∷ bs) bs front
front_sound b bs front h = by_star (b == byte "*") refl h
  where
    P : Front → Type 0
    P w = FrontStands (b ∷ bs) bs w

    Q : ℕ → Type 0
    Q w = FrontStands (w ∷ bs) bs front

    other : Option Front
    other = read.one_byte (Byte b)

    by_bracket : (b == byte "*") ≡ false → (b == byte "?") ≡ false → (b == escape) ≡ false → (t : Bool) → (b == byte "[") ≡ t
        → cond t (bracketed bs) other ≡ Some front → P front
    by_bracket e1 e2 e3 true e4 h = subst Q (sym (eqb-true b (byte "[") e4)) (bracket_sound bs front h)
    by_bracket e1 e2 e3 false e4 h =
        let it : Front = (Byte b, 0) in
        let plain : is_special b ≡ false = λ i. e1 i || (e2 i || (e3 i || e4 i)) in
        subst P (same_some it front h) (inr (refl, itself plain))

    by_escape : (b == byte "*") ≡ false → (b == byte "?") ≡ false → (t : Bool) → (b == escape) ≡ t
        → cond t (read.escaped bs) (cond (b == byte "[") (bracketed bs) other) ≡ Some front → P front
    by_escape e1 e2 true e3 h = subst Q (sym (eqb-true b escape e3)) (escape_sound bs front h)
    by_escape e1 e2 false e3 h = by_bracket e1 e2 e3 (b == byte "[") refl h

    by_any : (b == byte "*") ≡ false → (t : Bool) → (b == byte "?") ≡ t
        → cond t (read.one_byte One) (cond (b == escape) (read.escaped bs) (cond (b == byte "[") (bracketed bs) other)) ≡ Some front → P front
    by_any e1 true e2 h =
        let it : Front = (One, 0) in
        let R : ℕ → Type 0 = λ w. OneByte (w ∷ bs) (λ x. true) bs in
        subst P (same_some it front h) (inr (refl, subst R (sym (eqb-true b (byte "?") e2)) any))
    by_any e1 false e2 h = by_escape e1 e2 (b == escape) refl h

    by_star : (t : Bool) → (b == byte "*") ≡ t
        → cond t (read.one_byte Any)
        (cond (b == byte "?") (read.one_byte One) (cond (b == escape) (read.escaped bs) (cond (b == byte "[") (bracketed bs) other))) ≡ Some front
        → P front
    by_star true e h =
        let it : Front = (Any, 0) in
        subst P (same_some it front h) (inl (refl, ap (λ w. w ∷ bs) (eqb-true b (byte "*") e)))
    by_star false e h = by_any e (b == byte "?") refl h

-- the element at the front of bytes
abbrev pub front_of : List ℕ → Option Front
front_of [] = None
front_of (b ∷ bs) = element_at b bs

abbrev pub behind_first : List ℕ → List ℕ
behind_first [] = []
behind_first (b ∷ bs) = bs

pub record OneRead (ts rest : List ℕ) (has : Bytes) : Type 0 where
  pub front : Front
  pub is : front_of ts ≡ Some front
  pub one : is_any front.0 ≡ false
  pub same : (b : ℕ) → stands_for front.0 b ≡ has b
  pub left : drop front.1 (behind_first ts) ≡ rest

abbrev plain_front : Set → Front
plain_front set = (In set.0, set.1)

abbrev turned_front : Set → Front
turned_front set = (NotIn set.0, set.1 + 1)

bracket_plain : (ts : List ℕ) → begins negates ts ≡ false → bracketed ts ≡ option_map plain_front (set_of ts)
bracket_plain [] h = refl
bracket_plain (t ∷ ts) h = ap (λ b. cond b (option_map turned_front (set_of ts)) (option_map plain_front (set_of (t ∷ ts)))) h

pub one_complete : (ts rest : List ℕ) (has : Bytes) → OneByte ts has rest → OneRead ts rest has
one_complete ts rest has any = record { front = (One, 0); is = refl; one = refl; same = λ b. refl; left = refl }
one_complete ts rest has (escaped {c = c}) = record { front = (Byte c, 1); is = refl; one = refl; same = λ b. refl; left = refl }
one_complete ts rest has (in_set {ts = bs} h set) =
    let r = set_complete bs rest has set in
    record { front = plain_front r.set; is = bracket_plain bs h ∙ ap (option_map plain_front) r.is; one = refl; same = r.same; left = r.left }
one_complete ts rest has (outside {t = t} {ts = bs} {has = own} h set) =
    let r = set_complete bs rest own set in
    record {
      front = turned_front r.set;
      is = ap (λ b. cond b (option_map turned_front (set_of bs)) (option_map plain_front (set_of (t ∷ bs)))) h ∙ ap (option_map turned_front) r.is;
      one = refl;
      same = λ b. ap not (r.same b);
      left = drop_more r.set.1 t bs ∙ r.left;
    }
one_complete ts rest has (itself {c = c} h) =
    let e1 = not_either (c == byte "*") (c == byte "?" || (c == escape || c == byte "[")) h in
    let e2 = not_either (c == byte "?") (c == escape || c == byte "[") e1.1 in
    let e3 = not_either (c == escape) (c == byte "[") e2.1 in
    let other = read.one_byte (Byte c) in
    record {
      front = (Byte c, 0);
      is = λ i. cond (e1.0 i) (read.one_byte Any) (cond (e2.0 i) (read.one_byte One)
          (cond (e3.0 i) (read.escaped rest) (cond (e3.1 i) (bracketed rest) other)));
      one = refl;
      same = λ b. refl;
      left = refl;
    }
