-- A stable sort by priority.
use Rattle.std.proofs.Common.{arith, ◌≡◌, ℕ, suc, ◌+◌, Bool, true, false, not, ◌&&◌, cond, List, [], ◌∷◌, filter, get_or, Option, Some, None, All, refl, sym, ap, subst, ◌∙◌}
use Rattle.std.specs.List.{list_all}
use Rattle.std.specs.Cmp.{IsStrictWeakOrder}
use Rattle.std.specs.List.Sorted.{IsSortedBy, IsStableBy, ties}
use Rattle.std.proofs.lemmas.Bool.{and_parts, and_from, true≢false, false≢true}
use Rattle.std.proofs.lemmas.List.Sorted.{sorted_far}
use Rattle.std.proofs.lemmas.List.Sums.{list_all-from_AllPass}
use Rattle.ifs_interface.proofs.Repeats.{list_all-weaker}
use Rattle.link_core.specs.OutputNames.{Piece, by_priority, goes_before, priority, put_by_priority}
use Rattle.link_filled.specs.Fills.{before}

heads : {X : Type 0} (x y : X) (xs ys : List X) → x ∷ xs ≡ y ∷ ys → x ≡ y
heads x y xs ys e = cc

tails : {X : Type 0} (x y : X) (xs ys : List X) → x ∷ xs ≡ y ∷ ys → xs ≡ ys
tails x y xs ys e = cc

not_is : (b : Bool) → b ≡ false → not b ≡ true
not_is b e = ap not e

is_not : (b : Bool) → not b ≡ true → b ≡ false
is_not true e = sym e
is_not false e = refl

both_not : (a b : Bool) → a ≡ false → b ≡ false → (not a && not b) ≡ true
both_not a b e f = ap (λ t. not t && not b) e ∙ ap not f

module _ {X : Type 0} (lt : X → X → Bool) (o : IsStrictWeakOrder lt) where
  -- no element is less than one before it
  abbrev ups : List X → Bool
  ups [] = true
  ups (x ∷ xs) = list_all (λ y. not (lt y x)) xs && ups xs

  tail_sorted : (x : X) (xs : List X) → IsSortedBy lt (x ∷ xs) → IsSortedBy lt xs
  tail_sorted x xs up k d low less =
      let P : ℕ → Type 0 = λ n. lt (get_or (x ∷ xs) n d) (get_or (x ∷ xs) (suc k) d) ≡ false in
      let e : suc k + 1 ≡ suc (k + 1) = omega arith in
      subst P e (up (suc k) d (omega arith) (omega arith))

  none_less : (x : X) (xs : List X) → IsSortedBy lt (x ∷ xs) → All (λ y. not (lt y x) ≡ true) xs
  none_less x xs up k d less = not_is _ (sorted_far lt o (x ∷ xs) up 0 (suc k) d (omega arith) (omega arith))

  ups_sorted : (xs : List X) → IsSortedBy lt xs → ups xs ≡ true
  ups_sorted [] up = refl
  ups_sorted (x ∷ xs) up =
      and_from _ _ (list_all-from_AllPass (λ y. not (lt y x)) xs (none_less x xs up)) (ups_sorted xs (tail_sorted x xs up))

  -- ---- elements that tie

  itself_by : (b : Bool) (x : X) → lt x x ≡ b → lt x x ≡ false
  itself_by true x e = o.one_way x x e
  itself_by false x e = e

  tie_itself : (x : X) → ties lt x x ≡ true
  tie_itself x = let e = itself_by (lt x x) x refl in both_not (lt x x) (lt x x) e e

  -- what passes a test, of elements that all pass another
  found_passes : (p q : X → Bool) (ys : List X) (x : X) (rest : List X) → list_all q ys ≡ true → filter p ys ≡ x ∷ rest → q x ≡ true
  found_passes p q [] x rest all e = absurd (cc)
  found_passes p q (y ∷ ys) x rest all e =
      let parts = and_parts (q y) (list_all q ys) all in
      by (p y) parts.0 (λ f. found_passes p q ys x rest parts.1 f) e
    where
      by : (b : Bool) → q y ≡ true → (filter p ys ≡ x ∷ rest → q x ≡ true) → cond b (y ∷ filter p ys) (filter p ys) ≡ x ∷ rest → q x ≡ true
      by true here next f = sym (ap q (heads _ _ _ _ f)) ∙ here
      by false here next f = next f

  not_empty : (b : Bool) (x : X) (rest : List X) → b ≡ true → [] ≡ cond b (x ∷ rest) rest → ⊥
  not_empty true x rest t e = cc
  not_empty false x rest t e = false≢true t

  first_taken : (b : Bool) (x : X) (rest : List X) → b ≡ true → cond b (x ∷ rest) rest ≡ x ∷ rest
  first_taken true x rest t = refl
  first_taken false x rest t = absurd (false≢true t)

  drop_head : (b : Bool) (x : X) (ps qs : List X) → cond b (x ∷ ps) ps ≡ cond b (x ∷ qs) qs → ps ≡ qs
  drop_head true x ps qs e = tails _ _ _ _ e
  drop_head false x ps qs e = e

  abbrev SameTies : List X → List X → Type 0
  SameTies xs ys = (z : X) → filter (ties lt z) xs ≡ filter (ties lt z) ys

  -- the first of one list isn't less than that of the other
  not_less : (x y : X) (xs ys : List X) → ups (y ∷ ys) ≡ true → SameTies (x ∷ xs) (y ∷ ys) → lt x y ≡ false
  not_less x y xs ys up same =
      let others = (and_parts (list_all (λ e. not (lt e y)) ys) (ups ys) up).0 in
      let own : not (lt y y) ≡ true = not_is (lt y y) (itself_by (lt y y) y refl) in
      is_not (lt x y)
      (found_passes (ties lt x) (λ e. not (lt e y)) (y ∷ ys) x (filter (ties lt x) xs) (and_from (not (lt y y)) _ own others)
      (sym (same x) ∙ first_taken (ties lt x x) x (filter (ties lt x) xs) (tie_itself x)))

  -- sorted lists with the same ties in the same order are equal
  unique : (xs ys : List X) → ups xs ≡ true → ups ys ≡ true → SameTies xs ys → xs ≡ ys
  unique [] [] f g same = refl
  unique [] (y ∷ ys) f g same = absurd (not_empty (ties lt y y) y (filter (ties lt y) ys) (tie_itself y) (same y))
  unique (x ∷ xs) [] f g same = absurd (not_empty (ties lt x x) x (filter (ties lt x) xs) (tie_itself x) (sym (same x)))
  unique (x ∷ xs) (y ∷ ys) f g same =
      let tie : ties lt x y ≡ true = both_not (lt x y) (lt y x) (not_less x y xs ys g same) (not_less y x ys xs f (λ z. sym (same z))) in
      let one : x ≡ y =
      heads _ _ _ _ (sym (first_taken (ties lt x x) x (filter (ties lt x) xs) (tie_itself x)) ∙ same x ∙ first_taken (ties lt x y) y (filter (ties lt x) ys) tie) in
      let rest = unique xs ys (and_parts (list_all (λ e. not (lt e x)) xs) (ups xs) f).1 (and_parts (list_all (λ e. not (lt e y)) ys) (ups ys) g).1
      (λ z. drop_head (ties lt z x) x (filter (ties lt z) xs) (filter (ties lt z) ys)
      (subst (λ w. filter (ties lt z) (x ∷ xs) ≡ cond (ties lt z w) (w ∷ filter (ties lt z) ys) (filter (ties lt z) ys)) (sym one) (same z))) in
      λ i. one i ∷ rest i

-- ---- pieces by priority

one_way : (a b : Option ℕ) → goes_before a b ≡ true → goes_before b a ≡ false
one_way None b e = absurd (false≢true e)
one_way (Some n) None e = refl
one_way (Some n) (Some m) e = grind (arith)

chained : (a b c : Option ℕ) → goes_before a b ≡ false → goes_before b c ≡ false → goes_before a c ≡ false
chained None b c e f = refl
chained (Some n) None c e f = absurd (true≢false e)
chained (Some n) (Some m) None e f = absurd (true≢false f)
chained (Some n) (Some m) (Some k) e f = grind (arith)

pub before_ranks : IsStrictWeakOrder before
before_ranks = record {
  one_way = λ x y. one_way (priority x.input.name) (priority y.input.name);
  chain = λ x y z. chained (priority x.input.name) (priority y.input.name) (priority z.input.name);
}

abbrev rise : List Piece → Bool
rise ps = ups before before_ranks ps

all_put : (test : Piece → Bool) (p : Piece) (qs : List Piece) → test p ≡ true → list_all test qs ≡ true → list_all test (put_by_priority p qs) ≡ true
all_put test p [] e all = and_from (test p) true e refl
all_put test p (q ∷ qs) e all = by (before q p) (and_parts (test q) (list_all test qs) all)
    (all_put test p qs e (and_parts (test q) (list_all test qs) all).1)
  where
    by : (b : Bool) → (test q ≡ true) × (list_all test qs ≡ true) → list_all test (put_by_priority p qs) ≡ true
        → list_all test (cond b (q ∷ put_by_priority p qs) (p ∷ q ∷ qs)) ≡ true
    by true parts rest = and_from (test q) _ parts.0 rest
    by false parts rest = and_from (test p) _ e (and_from (test q) _ parts.0 parts.1)

rises_put : (p : Piece) (qs : List Piece) → rise qs ≡ true → rise (put_by_priority p qs) ≡ true
rises_put p [] up = refl
rises_put p (q ∷ qs) up = by (before q p) refl (and_parts (list_all (λ e. not (before e q)) qs) (rise qs) up)
    (rises_put p qs (and_parts (list_all (λ e. not (before e q)) qs) (rise qs) up).1)
  where
    by : (b : Bool) → before q p ≡ b → (list_all (λ e. not (before e q)) qs ≡ true) × (rise qs ≡ true) → rise (put_by_priority p qs) ≡ true
        → rise (cond b (q ∷ put_by_priority p qs) (p ∷ q ∷ qs)) ≡ true
    by true e parts rest =
        and_from _ _ (all_put (λ x. not (before x q)) p qs (not_is (before p q) (before_ranks.one_way q p e)) parts.0) rest
    by false e parts rest =
        and_from _ _
        (and_from (not (before q p)) _ (not_is (before q p) e)
        (list_all-weaker (λ x. not (before x q)) (λ x. not (before x p)) (λ x f. not_is (before x p) (before_ranks.chain x q p (is_not (before x q) f) e)) qs parts.0))
        (and_from _ _ parts.0 parts.1)

rises_by_priority : (ps : List Piece) → rise (by_priority ps) ≡ true
rises_by_priority [] = refl
rises_by_priority (p ∷ ps) = rises_put p (by_priority ps) (rises_by_priority ps)

-- of pieces that tie with one, none goes before the other
apart : (z p q : Piece) → ties before z p ≡ true → ties before z q ≡ true → before q p ≡ false
apart z p q e f =
    let one = and_parts (not (before z p)) (not (before p z)) e in
    let other = and_parts (not (before z q)) (not (before q z)) f in
    before_ranks.chain q z p (is_not (before q z) other.1) (is_not (before z p) one.0)

no_both : (z p q : Piece) (t u : Bool) → ties before z p ≡ t → ties before z q ≡ u → before q p ≡ true → (t && u) ≡ false
no_both z p q true true f g e = absurd (true≢false (sym e ∙ apart z p q f g))
no_both z p q true false f g e = refl
no_both z p q false u f g e = refl

swapped : (p q : Piece) (rest : List Piece) (t u : Bool) → (t && u) ≡ false
    → cond u (q ∷ cond t (p ∷ rest) rest) (cond t (p ∷ rest) rest) ≡ cond t (p ∷ cond u (q ∷ rest) rest) (cond u (q ∷ rest) rest)
swapped p q rest true true e = absurd (true≢false e)
swapped p q rest true false e = refl
swapped p q rest false u e = refl

ties_put : (z p : Piece) (qs : List Piece) → filter (ties before z) (put_by_priority p qs) ≡ filter (ties before z) (p ∷ qs)
ties_put z p [] = refl
ties_put z p (q ∷ qs) = by (before q p) (ties before z p) (ties before z q) refl refl refl (ties_put z p qs)
  where
    rest : List Piece
    rest = filter (ties before z) qs

    by : (b t u : Bool) → before q p ≡ b → ties before z p ≡ t → ties before z q ≡ u
        → filter (ties before z) (put_by_priority p qs) ≡ cond t (p ∷ rest) rest
        → filter (ties before z) (cond b (q ∷ put_by_priority p qs) (p ∷ q ∷ qs)) ≡ cond t (p ∷ cond u (q ∷ rest) rest) (cond u (q ∷ rest) rest)
    by true t u e f g same =
        (λ i. cond (g i) (q ∷ same i) (same i))
        ∙ swapped p q rest t u (no_both z p q t u f g e)
    by false t u e f g same = λ i. cond (f i) (p ∷ cond (g i) (q ∷ rest) rest) (cond (g i) (q ∷ rest) rest)

ties_by_priority : (z : Piece) (ps : List Piece) → filter (ties before z) (by_priority ps) ≡ filter (ties before z) ps
ties_by_priority z [] = refl
ties_by_priority z (p ∷ ps) = ties_put z p (by_priority ps) ∙ ap (λ rest. cond (ties before z p) (p ∷ rest) rest) (ties_by_priority z ps)

-- a stable sort puts pieces in this order
pub stable_is : (xs ys : List Piece) → IsSortedBy before ys → IsStableBy before xs ys → ys ≡ by_priority xs
stable_is xs ys up stable =
    unique before before_ranks ys (by_priority xs) (ups_sorted before before_ranks ys up) (rises_by_priority xs)
    (λ z. stable z ∙ sym (ties_by_priority z xs))
