-- A turn of the search for a name that stands twice, over a set of the names before.
use Rattle.std.proofs.Common.{◌≡◌, ℕ, suc, ◌+◌, ◌<◌, Bool, true, false, cond, not, ◌||◌, List, [], ◌∷◌, ◌++◌, length, take, drop, get_or, Option, Some, refl, sym, ap, ◌∙◌, arith}
use Rattle.std.proofs.Math.Seq.{drop-cons, take-suc}
use Rattle.std.proofs.lemmas.List.{map-append}
use Rattle.std.proofs.lemmas.Bool.{true≢false}
use Rattle.std.specs.Ordering.{nat_cmp, is_eq}
use Rattle.std.specs.Cmp.Lexicographic.{slice_cmp, texts_ties}
use Rattle.ifs_interface.specs.declared.symbol.Symbol.{Symbol}
use Rattle.ifs_interface.specs.Triple.{same_name}
use Rattle.ifs_interface.specs.Interface.{names_of}
use Rattle.ifs_text.specs.Maps.{is_among}
use Rattle.ifs_text.specs.Text.{second_after}
use Rattle.ifs_text.proofs.Order.{swapped, swapped_not, any_append}

same_by : (a b : List ℕ) (t : Bool) → same_name a b ≡ t → same_name a b ≡ same_name b a
same_by a b true e = e ∙ sym (swapped a b e)
same_by a b false e = e ∙ sym (swapped_not a b e)

same_back : (a b : List ℕ) → same_name a b ≡ same_name b a
same_back a b = same_by a b (same_name a b) refl

or_by : (a b : Bool) → cond a true b ≡ (b || a)
or_by true true = refl
or_by true false = refl
or_by false true = refl
or_by false false = refl

module _ (i : ℕ) (ss : List Symbol) (x : Symbol) (within : i < length ss) (is : x ≡ get_or ss i x) where
  next : i + 1 ≡ suc i
  next = omega arith

  pub names_more : names_of (take (i + 1) ss) ≡ names_of (take i ss) ++ x.name ∷ []
  names_more =
      ap (λ k. names_of (take k ss)) next ∙ ap names_of (take-suc ss i x within ∙ ap (λ s. take i ss ++ s ∷ []) (sym is)) ∙ map-append (λ (s : Symbol). s.name) (take i ss) (x ∷ [])

  pub names_left : names_of (drop i ss) ≡ x.name ∷ names_of (drop (i + 1) ss)
  names_left =
      ap names_of (drop-cons ss i x within) ∙ ap (λ (s : Symbol). s.name ∷ names_of (drop (suc i) ss)) (sym is) ∙ ap (λ k. x.name ∷ names_of (drop k ss)) (sym next)

  -- what is left, by the next name
  pub turn : second_after (names_of (take i ss)) (names_of (drop i ss)) ≡ cond (is_among x.name (names_of (take i ss))) (Some x.name) (second_after (names_of (take (i + 1) ss)) (names_of (drop (i + 1) ss)))
  turn =
      ap (second_after (names_of (take i ss))) names_left
      ∙ ap (λ before. cond (is_among x.name (names_of (take i ss))) (Some x.name) (second_after before (names_of (drop (i + 1) ss)))) (sym names_more)

  -- the names before, with the next one
  pub seen_more : (q : List ℕ) → cond (is_eq (slice_cmp nat_cmp x.name q)) true (is_among q (names_of (take i ss))) ≡ is_among q (names_of (take (i + 1) ss))
  seen_more q =
      ap (λ b. cond b true (is_among q (names_of (take i ss)))) (sym (texts_ties x.name q) ∙ same_back x.name q)
      ∙ or_by (same_name q x.name) (is_among q (names_of (take i ss))) ∙ sym (any_append q x.name (names_of (take i ss))) ∙ ap (is_among q) (sym names_more)

  -- a name that was seen is the second
  pub stops : (rest : Option (List ℕ)) → is_among x.name (names_of (take i ss)) ≡ true → second_after (names_of (take i ss)) (names_of (drop i ss)) ≡ rest → Some x.name ≡ rest
  stops rest seen left =
      sym (turn ∙ ap (λ b. cond b (Some x.name) (second_after (names_of (take (i + 1) ss)) (names_of (drop (i + 1) ss)))) seen) ∙ left

  pub goes_on : (rest : Option (List ℕ)) → is_among x.name (names_of (take i ss)) ≡ false → second_after (names_of (take i ss)) (names_of (drop i ss)) ≡ rest → second_after (names_of (take (i + 1) ss)) (names_of (drop (i + 1) ss)) ≡ rest
  goes_on rest fresh left =
      sym (turn ∙ ap (λ b. cond b (Some x.name) (second_after (names_of (take (i + 1) ss)) (names_of (drop (i + 1) ss)))) fresh) ∙ left

  -- a set of the names before, with the next one
  pub set_more : (old new : Bool) (key q : List ℕ) → key ≡ x.name → new ≡ cond (is_eq (slice_cmp nat_cmp key q)) true old → old ≡ is_among q (names_of (take i ss)) → new ≡ is_among q (names_of (take (i + 1) ss))
  set_more old new key q same put seen =
      put ∙ ap (λ k. cond (is_eq (slice_cmp nat_cmp k q)) true old) same ∙ ap (λ b. cond (is_eq (slice_cmp nat_cmp x.name q)) true b) seen ∙ seen_more q

-- a name that was added wasn't seen
pub was_new : (added seen : Bool) → added ≡ not seen → added ≡ true → seen ≡ false
was_new added true h g = absurd (true≢false (sym g ∙ h))
was_new added false h g = refl
