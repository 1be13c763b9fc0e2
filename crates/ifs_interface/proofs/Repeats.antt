-- Names in order: either each stands once, or the first that is repeated is the least.
use Rattle.std.proofs.Common.{◌≡◌, ℕ, zero, suc, ◌<◌, ◌≤◌, Bool, true, false, cond, not, List, [], ◌∷◌, length, drop, get_or, Option, Some, None, ◌⊎◌, inl, inr, refl, sym, ap, ◌∙◌, subst, arith}
use Rattle.std.specs.List.{list_all, filter}
use Rattle.std.specs.List.Sorted.{IsPermutation, IsSortedByKey}
use Rattle.std.specs.Ordering.{nat_cmp}
use Rattle.std.specs.Cmp.Lexicographic.{slice_cmp}
use Rattle.std.proofs.lemmas.Bool.{false≢true, false_from_ne_true, not_from_false, and_parts, and_from, not-true, cases_Bool}
use Rattle.std.proofs.lemmas.List.Sums.{length-filter}
use Rattle.std.proofs.lemmas.List.Sorted.{sum_by-IsPermutation, IsPermutation-map}
use Rattle.std.proofs.lemmas.List.{get_or-map, length-map}
use Rattle.ifs_interface.specs.declared.symbol.Symbol.{Symbol}
use Rattle.ifs_interface.specs.declared.target.Target.{Target}
use Rattle.ifs_interface.specs.Triple.{same_name}
use Rattle.ifs_interface.specs.Interface.{comes_before, ascends, is_proper_name, names_of, repeated_after, first_repeated, AreParts, IsLeastRepeated}
use Rattle.ifs_interface.proofs.Names.{same_name-is, same_name-itself, before_differs, before_trans, before_of_rest, rises, rises-from_sorted, list_all-IsPermutation}

-- how often a name stands in a list
abbrev times : List ℕ → List (List ℕ) → ℕ
times name ns = length (filter (same_name name) ns)

times_here : (a n : List ℕ) (ns : List (List ℕ)) → same_name a n ≡ true → times a (n ∷ ns) ≡ suc (times a ns)
times_here a n ns h = ap (λ b. length (cond b (n ∷ filter (same_name a) ns) (filter (same_name a) ns))) h

times_past : (a n : List ℕ) (ns : List (List ℕ)) → same_name a n ≡ false → times a (n ∷ ns) ≡ times a ns
times_past a n ns h = ap (λ b. length (cond b (n ∷ filter (same_name a) ns) (filter (same_name a) ns))) h

-- a name doesn't stand among others
times_none : (a : List ℕ) (ns : List (List ℕ)) → list_all (λ m. not (same_name a m)) ns ≡ true → times a ns ≡ 0
times_none a [] h = refl
times_none a (n ∷ ns) h =
    let p = and_parts _ _ h in
    times_past a n ns (not-true _ p.0) ∙ times_none a ns p.1

-- what passes one test passes another that follows from it
pub list_all-weaker : {X : Type 0} (p q : X → Bool) → ((x : X) → p x ≡ true → q x ≡ true) → (xs : List X) → list_all p xs ≡ true → list_all q xs ≡ true
list_all-weaker p q follows [] h = refl
list_all-weaker p q follows (x ∷ xs) h =
    let h' = and_parts _ _ h in
    and_from _ _ (follows x h'.0) (list_all-weaker p q follows xs h'.1)

-- a name before the first of a rising list doesn't stand in it
none_below : (a n : List ℕ) (ns : List (List ℕ)) → comes_before a n ≡ true → rises (n ∷ ns) ≡ true → times a (n ∷ ns) ≡ 0
none_below a n ns lt up =
    let follows = λ (m : List ℕ) (h : not (comes_before m n) ≡ true).
    let P : List ℕ → Type 0 = λ k. comes_before k n ≡ true in
    not_from_false (same_name a m) (false_from_ne_true _ (λ e. false≢true (sym (not-true _ h) ∙ subst P (same_name-is a m e) lt))) in
    times_past a n ns (before_differs a n lt)
    ∙ times_none a ns (list_all-weaker (λ m. not (comes_before m n)) (λ m. not (same_name a m)) follows ns (and_parts _ _ up).0)

no_repeat : (b : Bool) (m : List ℕ) (r : Option (List ℕ)) → cond b (Some m) r ≡ None → (b ≡ false) × (r ≡ None)
no_repeat true m r h = absurd (cc)
no_repeat false m r h = (refl, h)

-- a list that rises, and in which no name is repeated, ascends
ascends_after : (n : List ℕ) (ns : List (List ℕ)) → rises (n ∷ ns) ≡ true → repeated_after n ns ≡ None → ascends (n ∷ ns) ≡ true
ascends_after n [] up none = refl
ascends_after n (m ∷ ms) up none =
    let past = no_repeat (same_name m n) m (repeated_after m ms) none in
    let parts = and_parts _ _ up in
    let rest = ascends_after m ms parts.1 past.1 in
    let here = before_of_rest n m (not-true _ (and_parts _ _ parts.0).0) past.0 in
    let later = list_all-weaker (comes_before m) (comes_before n) (λ k h. before_trans n m k here h) ms (and_parts _ _ rest).0 in
    and_from _ _ (and_from _ _ here later) rest

-- what `IsLeastRepeated` says, by `times`
abbrev IsLeast : List (List ℕ) → List ℕ → Type 0
IsLeast ns r = (1 < times r ns) × ((a : List ℕ) → 1 < times a ns → comes_before a r ≡ false)

least_here : (n m : List ℕ) (ms : List (List ℕ)) → rises (n ∷ m ∷ ms) ≡ true → same_name m n ≡ true → IsLeast (n ∷ m ∷ ms) m
least_here n m ms up same =
    let twice = times_here m n (m ∷ ms) same ∙ ap suc (times_here m m ms (same_name-itself m)) in
    let least = λ (a : List ℕ) (often : 1 < times a (n ∷ m ∷ ms)).
    let P : List ℕ → Type 0 = λ k. comes_before a k ≡ true in
    false_from_ne_true (comes_before a m) (λ lt.
    let none = none_below a n (m ∷ ms) (subst P (same_name-is m n same) lt) up in
    absurd (omega (arith, often, none))) in
    (omega (arith, twice), least)

least_later : (n m : List ℕ) (ms : List (List ℕ)) (r : List ℕ) → rises (n ∷ m ∷ ms) ≡ true → same_name m n ≡ false → IsLeast (m ∷ ms) r → IsLeast (n ∷ m ∷ ms) r
least_later n m ms r up differs rest =
    let parts = and_parts _ _ up in
    let here = before_of_rest n m (not-true _ (and_parts _ _ parts.0).0) differs in
    let more = elim (cases_Bool (same_name r n)) as (λ _. 1 < times r (n ∷ m ∷ ms)) [ inl e ↦ omega (arith, times_here r n (m ∷ ms) e, rest.0) | inr e ↦ omega (arith, times_past r n (m ∷ ms) e, rest.0) ] in
    let least = λ (a : List ℕ) (often : 1 < times a (n ∷ m ∷ ms)).
    elim (cases_Bool (same_name a n)) as (λ _. comes_before a r ≡ false) [
      | inl e ↦
          (let P : List ℕ → Type 0 = λ k. comes_before k m ≡ true in
          let none = none_below a m ms (subst P (sym (same_name-is a n e)) here) parts.1 in
          absurd (omega (arith, times_here a n (m ∷ ms) e, none, often)))
      | inr e ↦ rest.1 a (omega (arith, times_past a n (m ∷ ms) e, often))
    ] in
    (more, least)

first_repeat : (b : Bool) (m r : List ℕ) (o : Option (List ℕ)) → cond b (Some m) o ≡ Some r → ((b ≡ true) × (m ≡ r)) ⊎ ((b ≡ false) × (o ≡ Some r))
first_repeat true m r o h = inl (refl, cc)
first_repeat false m r o h = inr (refl, h)

least_after : (n : List ℕ) (ns : List (List ℕ)) (r : List ℕ) → rises (n ∷ ns) ≡ true → repeated_after n ns ≡ Some r → IsLeast (n ∷ ns) r
least_after n [] r up some = absurd (cc)
least_after n (m ∷ ms) r up some =
    let P : List ℕ → Type 0 = λ k. IsLeast (n ∷ m ∷ ms) k in
    elim (first_repeat (same_name m n) m r (repeated_after m ms) some) as (λ _. IsLeast (n ∷ m ∷ ms) r) [
      | inl h ↦ subst P h.1 (least_here n m ms up h.0)
      | inr h ↦ least_later n m ms r up h.0 (least_after m ms r (and_parts _ _ up).1 h.1)
    ]

pub ascends-from_rises : (ns : List (List ℕ)) → rises ns ≡ true → first_repeated ns ≡ None → ascends ns ≡ true
ascends-from_rises [] up none = refl
ascends-from_rises (n ∷ ns) up none = ascends_after n ns up none

least_of : (ns : List (List ℕ)) (r : List ℕ) → rises ns ≡ true → first_repeated ns ≡ Some r → IsLeast ns r
least_of [] r up some = absurd (cc)
least_of (n ∷ ns) r up some = least_after n ns r up some

-- the first name that is repeated in a rising list is the least, in the list and in every permutation of it
pub IsLeastRepeated-from_rises : (xs ns : List (List ℕ)) (r : List ℕ) → IsPermutation xs ns → rises ns ≡ true → first_repeated ns ≡ Some r → IsLeastRepeated xs r
IsLeastRepeated-from_rises xs ns r moved up some =
    let least = least_of ns r up some in
    let same = λ (a : List ℕ). length-filter (same_name a) ns ∙ sum_by-IsPermutation (λ m. cond (same_name a m) 1 0) xs ns moved in
    record {
      repeated = omega (arith, same r, least.0);
      least = λ a often. least.1 a (omega (arith, same a, often));
    }

-- ---- the steps of the search

-- two neighbours, and what is left
pub first_repeated-drop : (ns : List (List ℕ)) (i : ℕ) → suc i < length ns → first_repeated (drop i ns) ≡ cond (same_name (get_or ns (suc i) []) (get_or ns i [])) (Some (get_or ns (suc i) [])) (first_repeated (drop (suc i) ns))
first_repeated-drop [] i h = absurd (omega arith)
first_repeated-drop (n ∷ []) i h = absurd (omega arith)
first_repeated-drop (n ∷ m ∷ ms) zero h = refl
first_repeated-drop (n ∷ m ∷ ms) (suc i) h = first_repeated-drop (m ∷ ms) i (omega arith)

pub first_repeated-drop_last : (ns : List (List ℕ)) (i : ℕ) → length ns ≤ suc i → first_repeated (drop i ns) ≡ None
first_repeated-drop_last [] zero h = refl
first_repeated-drop_last [] (suc i) h = refl
first_repeated-drop_last (n ∷ []) zero h = refl
first_repeated-drop_last (n ∷ m ∷ ms) zero h = absurd (omega arith)
first_repeated-drop_last (n ∷ ns) (suc i) h = first_repeated-drop_last ns i (omega arith)

-- the symbols at p and before it, which the search compares
pub step_at : (xs : List Symbol) (i p : ℕ) (x y : Symbol) (same : Bool) → p ≡ suc i → p < length xs → same ≡ same_name (get_or xs p x).name (get_or xs i y).name → first_repeated (drop i (names_of xs)) ≡ cond same (Some (get_or (names_of xs) p [])) (first_repeated (drop p (names_of xs)))
step_at xs i p x y same next lt told =
    let name = λ (s : Symbol). s.name in
    let ns = names_of xs in
    let Q : ℕ → Type 0 = λ k. k < length xs → first_repeated (drop i ns) ≡ cond (same_name (get_or ns k []) (get_or ns i [])) (Some (get_or ns k [])) (first_repeated (drop k ns)) in
    let here : Q (suc i) = λ within. first_repeated-drop ns i (omega (arith, length-map xs name, within)) in
    let name_x = get_or-map name xs p x [] lt in
    let name_y = get_or-map name xs i y [] (omega arith) in
    let met = told ∙ ap (λ n. same_name n (get_or xs i y).name) (sym name_x) ∙ ap (λ n. same_name (get_or ns p []) n) (sym name_y) in
    subst Q (sym next) here lt ∙ ap (λ b. cond b (Some (get_or ns p [])) (first_repeated (drop p ns))) (sym met)

pub end_at : (xs : List Symbol) (i : ℕ) → length xs ≤ suc i → first_repeated (drop i (names_of xs)) ≡ None
end_at xs i past = first_repeated-drop_last (names_of xs) i (omega (arith, length-map xs (λ (s : Symbol). s.name), past))

-- ---- symbols that were sorted

pub ascends-from_sorted : (ys : List Symbol) → IsSortedByKey (λ s. s.name) (slice_cmp nat_cmp) ys → None ≡ first_repeated (names_of ys) → ascends (names_of ys) ≡ true
ascends-from_sorted ys up none = ascends-from_rises (names_of ys) (rises-from_sorted (λ (s : Symbol). s.name) ys up) (sym none)

pub IsLeastRepeated-from_sorted : (xs ys : List Symbol) (i : ℕ) (x : Symbol) → IsPermutation xs ys → IsSortedByKey (λ s. s.name) (slice_cmp nat_cmp) ys → i < length ys → x ≡ get_or ys i x → Some (get_or (names_of ys) i []) ≡ first_repeated (names_of ys) → IsLeastRepeated (names_of xs) x.name
IsLeastRepeated-from_sorted xs ys i x moved up lt is some =
    let name = λ (s : Symbol). s.name in
    let named = get_or-map name ys i x [] lt ∙ ap name (sym is) in
    IsLeastRepeated-from_rises (names_of xs) (names_of ys) x.name (IsPermutation-map name xs ys moved) (rises-from_sorted name ys up) (sym some ∙ ap (λ n. Some n) named)

pub AreParts-IsPermutation : (soname : Option (List ℕ)) (target : Target) (needed : List (List ℕ)) (xs ys : List Symbol) → IsPermutation xs ys → AreParts soname target needed xs → AreParts soname target needed ys
AreParts-IsPermutation soname target needed xs ys moved parts = record {
  soname_is_proper = parts.soname_is_proper;
  target_is_proper = parts.target_is_proper;
  needed_are_proper = parts.needed_are_proper;
  names_are_proper = list_all-IsPermutation is_proper_name (names_of xs) (names_of ys) (IsPermutation-map (λ (s : Symbol). s.name) xs ys moved) parts.names_are_proper;
}
