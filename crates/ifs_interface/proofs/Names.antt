-- Names compared byte by byte, and lists of them in order.
use Rattle.std.proofs.Common.{◌≡◌, ℕ, suc, ◌+◌, Bool, true, false, not, ◌&&◌, List, [], ◌∷◌, map, get_or, refl, sym, ap, ◌∙◌, subst, arith}
use Rattle.std.specs.declared.cmp.Ordering.{Ordering}
use Rattle.std.specs.declared.cmp.Ordering.TheVariants.{Less, Equal, Greater}
use Rattle.std.specs.Ordering.{nat_cmp, is_lt, is_eq, ordering_reverse}
use Rattle.std.specs.Cmp.{IsStrictWeakOrder}
use Rattle.std.specs.Cmp.Lexicographic.{slice_cmp, bytes_decides, nat_list_cmp_total, texts_ties}
use Rattle.std.specs.List.{list_all, All}
use Rattle.std.specs.List.Sorted.{IsPermutation, IsSortedBy}
use Rattle.std.proofs.lemmas.Bool.{false≢true, false_from_ne_true, true_from_ne_false, not_from_false, and_from}
use Rattle.std.proofs.lemmas.List.Sums.{AllPass-from_list_all, list_all-from_AllPass}
use Rattle.std.proofs.lemmas.List.Folds.{list_all-map}
use Rattle.std.proofs.lemmas.List.Sorted.{ranks_by, All-permutation, sorted_far}
use Rattle.ifs_interface.specs.Triple.{same_name}
use Rattle.ifs_interface.specs.Interface.{comes_before}

-- ---- two names

pub names_order : IsStrictWeakOrder comes_before
names_order = ranks_by nat_list_cmp_total (λ n. n)

pub same_name-is : (a b : List ℕ) → same_name a b ≡ true → a ≡ b
same_name-is a b h = (bytes_decides a b).0 h

pub same_name-itself : (a : List ℕ) → same_name a a ≡ true
same_name-itself a = (bytes_decides a a).1 refl

pub not_before_itself : (a : List ℕ) → comes_before a a ≡ false
not_before_itself a = false_from_ne_true _ (λ h. false≢true (sym (names_order.one_way a a h) ∙ h))

pub before_differs : (a b : List ℕ) → comes_before a b ≡ true → same_name a b ≡ false
before_differs a b h =
    let P : List ℕ → Type 0 = λ n. comes_before n b ≡ true in
    false_from_ne_true _ (λ e. false≢true (sym (not_before_itself b) ∙ subst P (same_name-is a b e) h))

equal_of_neither : (r : Ordering) → is_lt (ordering_reverse r) ≡ false → is_lt r ≡ false → is_eq (ordering_reverse r) ≡ true
equal_of_neither Less h g = absurd (false≢true (sym g))
equal_of_neither Equal h g = refl
equal_of_neither Greater h g = absurd (false≢true (sym h))

-- where neither comes before the other they are the same
pub same_of_neither : (a b : List ℕ) → comes_before a b ≡ false → comes_before b a ≡ false → same_name a b ≡ true
same_of_neither a b h g =
    let e = nat_list_cmp_total.antisymm a b in
    texts_ties a b ∙ ap is_eq e ∙ equal_of_neither (slice_cmp nat_cmp b a) (sym (ap is_lt e) ∙ h) g

pub before_trans : (a b c : List ℕ) → comes_before a b ≡ true → comes_before b c ≡ true → comes_before a c ≡ true
before_trans a b c h g =
    true_from_ne_false _ (λ no. false≢true (sym (names_order.chain a c b no (names_order.one_way b c g)) ∙ h))

-- two that differ, of which the second doesn't come first
pub before_of_rest : (a b : List ℕ) → comes_before b a ≡ false → same_name b a ≡ false → comes_before a b ≡ true
before_of_rest a b h d =
    true_from_ne_false _ (λ no. false≢true (sym d ∙ same_of_neither b a h no))

-- ---- lists of names

-- no name comes before the one it follows, or any earlier one
abbrev pub rises : List (List ℕ) → Bool
rises [] = true
rises (n ∷ ns) = list_all (λ m. not (comes_before m n)) ns && rises ns

-- a test that passes everywhere passes after a permutation
pub list_all-IsPermutation : {X : Type 0} (p : X → Bool) (xs ys : List X) → IsPermutation xs ys → list_all p xs ≡ true → list_all p ys ≡ true
list_all-IsPermutation p xs ys moved h =
    list_all-from_AllPass p ys (All-permutation (λ x. p x ≡ true) xs ys moved (AllPass-from_list_all p xs h))

module _ {X : Type 0} (key : X → List ℕ) where
  abbrev by_key : X → X → Bool
  by_key x y = comes_before (key x) (key y)

  tail_sorted : (x : X) (xs : List X) → IsSortedBy by_key (x ∷ xs) → IsSortedBy by_key xs
  tail_sorted x xs up k d low lt =
      let P : ℕ → Type 0 = λ n. by_key (get_or (x ∷ xs) n d) (get_or (x ∷ xs) (suc k) d) ≡ false in
      let e : suc k + 1 ≡ suc (k + 1) = omega arith in
      subst P e (up (suc k) d (omega arith) (omega arith))

  none_before : (x : X) (xs : List X) → IsSortedBy by_key (x ∷ xs) → All (λ y. not (by_key y x) ≡ true) xs
  none_before x xs up k d lt =
      not_from_false _ (sorted_far by_key (ranks_by nat_list_cmp_total key) (x ∷ xs) up 0 (suc k) d (omega arith) (omega arith))

  map_all : (p : List ℕ → Bool) (xs : List X) → All (λ x. p (key x) ≡ true) xs → list_all p (map key xs) ≡ true
  map_all p xs h = list_all-map p key xs ∙ list_all-from_AllPass (λ x. p (key x)) xs h

  -- the keys of what was sorted by them
  pub rises-from_sorted : (xs : List X) → IsSortedBy by_key xs → rises (map key xs) ≡ true
  rises-from_sorted [] up = refl
  rises-from_sorted (x ∷ xs) up =
      and_from _ _ (map_all (λ m. not (comes_before m (key x))) xs (none_before x xs up)) (rises-from_sorted xs (tail_sorted x xs up))
