-- Names listed once, and the pass over libraries.
use Rattle.std.proofs.Common.{◌≡◌, ℕ, ◌+◌, ◌<◌, ◌≤◌, Bool, true, false, not, ◌||◌, cond, List, [], ◌∷◌, ◌++◌, length, get_or, drop, map, filter, refl, sym, ap, ◌∙◌, subst, append_assoc}
use Rattle.std.specs.List.{enumerate_from}
use Rattle.std.proofs.lemmas.List.{at_drop_more, drop_all, append-nil}
use Rattle.std.proofs.lemmas.List.Folds.{list_any-append}
use Rattle.ifs_interface.specs.Triple.{same_name}
use Rattle.ifs_interface.proofs.Names.{same_name-is}
use Rattle.link_core.specs.declared.options.LinkOptions.{LinkOptions}
use Rattle.link_core.specs.declared.resolution.NameRow.{NameRow}
use Rattle.link_core.specs.Exports.{is_used, needed_names}
use Rattle.link_core.specs.Lists.{once}
use Rattle.link_core.specs.Side.{Library}
use Rattle.link_checks.specs.Needed.{has_text, is_asked, with_asked, with_once}

-- those of the names that aren't among others
abbrev pub fresh : List (List ℕ) → List (List ℕ) → List (List ℕ)
fresh done names = filter (λ n. not (has_text done n)) names

abbrev other_than : List ℕ → List (List ℕ) → List (List ℕ)
other_than x names = filter (λ y. not (same_name x y)) names

one_of : (done : List (List ℕ)) (x y : List ℕ) → has_text (done ++ x ∷ []) y ≡ (has_text done y || same_name x y)
one_of done x y = list_any-append (λ n. same_name n y) done (x ∷ []) ∙ ap (λ t. has_text done y || t) (by (same_name x y))
  where
    by : (t : Bool) → (t || false) ≡ t
    by true = refl
    by false = refl

-- a name that is new: those that are neither it nor among the others
fresh_one : (done : List (List ℕ)) (x : List ℕ) (names : List (List ℕ)) → fresh (done ++ x ∷ []) names ≡ fresh done (other_than x names)
fresh_one done x [] = refl
fresh_one done x (y ∷ ys) =
    ap (λ t. cond (not t) (y ∷ fresh (done ++ x ∷ []) ys) (fresh (done ++ x ∷ []) ys)) (one_of done x y)
    ∙ ap (λ rest. cond (not (has_text done y || same_name x y)) (y ∷ rest) rest) (fresh_one done x ys)
    ∙ by (same_name x y) (has_text done y) refl
  where
    by : (s h : Bool) → has_text done y ≡ h → cond (not (h || s)) (y ∷ fresh done (other_than x ys)) (fresh done (other_than x ys)) ≡ fresh done (cond (not s) (y ∷ other_than x ys) (other_than x ys))
    by true true e = refl
    by true false e = refl
    by false true e = sym (ap (λ t. cond (not t) (y ∷ fresh done (other_than x ys)) (fresh done (other_than x ys))) e)
    by false false e = sym (ap (λ t. cond (not t) (y ∷ fresh done (other_than x ys)) (fresh done (other_than x ys))) e)

-- a name that is there already: no need to look for it
fresh_again : (done : List (List ℕ)) (x : List ℕ) → has_text done x ≡ true → (names : List (List ℕ)) → fresh done (other_than x names) ≡ fresh done names
fresh_again done x there [] = refl
fresh_again done x there (y ∷ ys) = by (same_name x y) refl (fresh_again done x there ys)
  where
    by : (s : Bool) → same_name x y ≡ s → fresh done (other_than x ys) ≡ fresh done ys → fresh done (cond (not s) (y ∷ other_than x ys) (other_than x ys)) ≡ fresh done (y ∷ ys)
    by true e rest =
        let has : has_text done y ≡ true = subst (λ n. has_text done n ≡ true) (same_name-is x y e) there in
        rest ∙ sym (ap (λ t. cond (not t) (y ∷ fresh done ys) (fresh done ys)) has)
    by false e rest = ap (λ ns. cond (not (has_text done y)) (y ∷ ns) ns) rest

once_step : (done : List (List ℕ)) (x : List ℕ) (names : List (List ℕ)) → done ++ fresh done (once same_name (x ∷ names)) ≡ with_once done x ++ fresh (with_once done x) (once same_name names)
once_step done x names = by (has_text done x) refl
  where
    by : (t : Bool) → has_text done x ≡ t → done ++ fresh done (x ∷ other_than x (once same_name names)) ≡ cond t done (done ++ x ∷ []) ++ fresh (cond t done (done ++ x ∷ [])) (once same_name names)
    by true e =
        ap (λ t. done ++ cond (not t) (x ∷ fresh done (other_than x (once same_name names))) (fresh done (other_than x (once same_name names)))) e
        ∙ ap (λ ns. done ++ ns) (fresh_again done x e (once same_name names))
    by false e =
        ap (λ t. done ++ cond (not t) (x ∷ fresh done (other_than x (once same_name names))) (fresh done (other_than x (once same_name names)))) e
        ∙ ap (λ ns. done ++ x ∷ ns) (sym (fresh_one done x (once same_name names)))
        ∙ sym (append_assoc done (x ∷ []) (fresh (done ++ x ∷ []) (once same_name names)))

module _ {X : Type 0} (g : X → Library) (options : LinkOptions) (rows : List NameRow) where
  -- the names that are asked for, from a library on
  abbrev pub asked_from : ℕ → List X → List (List ℕ)
  asked_from i xs =
      map (λ library. library.1.name) (filter (λ library. not options.as_needed || is_used rows library) (enumerate_from i (map g xs)))

  asked_at : (xs : List X) (i : ℕ) (x : X) → i < length xs → x ≡ get_or xs i x → asked_from i (drop i xs) ≡ cond (is_asked options rows i) ((g x).name ∷ asked_from (i + 1) (drop (i + 1) xs)) (asked_from (i + 1) (drop (i + 1) xs))
  asked_at xs i x h e =
      at_drop_more (asked_from i) xs i x h ∙ ap (λ y. asked_from i (y ∷ drop (i + 1) xs)) (sym e)
      ∙ elim (is_asked options rows i) as (λ t. map (λ library. library.1.name) (cond t ((i, g x) ∷ filter (λ library. not options.as_needed || is_used rows library) (enumerate_from (i + 1) (map g (drop (i + 1) xs)))) (filter (λ library. not options.as_needed || is_used rows library) (enumerate_from (i + 1) (map g (drop (i + 1) xs))))) ≡ cond t ((g x).name ∷ asked_from (i + 1) (drop (i + 1) xs)) (asked_from (i + 1) (drop (i + 1) xs)))
      [ true ↦ refl | false ↦ refl ]

  pub needed_more : (xs : List X) (i : ℕ) (x : X) (old new all : List (List ℕ)) → i < length xs → x ≡ get_or xs i x → new ≡ with_asked (is_asked options rows i) old (g x).name → old ++ fresh old (once same_name (asked_from i (drop i xs))) ≡ all → new ++ fresh new (once same_name (asked_from (i + 1) (drop (i + 1) xs))) ≡ all
  needed_more xs i x old new all h e made so_far =
      let left = asked_from (i + 1) (drop (i + 1) xs) in
      ap (λ done. done ++ fresh done (once same_name left)) made
      ∙ sym (by (is_asked options rows i))
      ∙ ap (λ names. old ++ fresh old (once same_name names)) (sym (asked_at xs i x h e)) ∙ so_far
    where
      by : (t : Bool) → old ++ fresh old (once same_name (cond t ((g x).name ∷ asked_from (i + 1) (drop (i + 1) xs)) (asked_from (i + 1) (drop (i + 1) xs)))) ≡ with_asked t old (g x).name ++ fresh (with_asked t old (g x).name) (once same_name (asked_from (i + 1) (drop (i + 1) xs)))
      by true = once_step old (g x).name (asked_from (i + 1) (drop (i + 1) xs))
      by false = refl

  pub needed_end : (xs : List X) (i : ℕ) (old all : List (List ℕ)) → length xs ≤ i → old ++ fresh old (once same_name (asked_from i (drop i xs))) ≡ all → old ≡ all
  needed_end xs i old all h so_far =
      sym (append-nil old) ∙ sym (ap (λ ys. old ++ fresh old (once same_name (asked_from i ys))) (drop_all i xs h)) ∙ so_far

  all_fresh : (names : List (List ℕ)) → fresh [] names ≡ names
  all_fresh [] = refl
  all_fresh (n ∷ names) = ap (λ ns. n ∷ ns) (all_fresh names)

  pub needed_is : (xs : List X) → fresh [] (once same_name (asked_from 0 xs)) ≡ needed_names options (map g xs) rows
  unfolding needed_names
  needed_is xs = all_fresh (once same_name (asked_from 0 xs))

  pub needed_start : (xs : List X) (done : List (List ℕ)) → done ≡ [] → done ++ fresh done (once same_name (asked_from 0 xs)) ≡ needed_names options (map g xs) rows
  needed_start xs done none = ap (λ ns. ns ++ fresh ns (once same_name (asked_from 0 xs))) none ∙ needed_is xs
