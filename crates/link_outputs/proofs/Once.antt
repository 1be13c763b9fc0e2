-- A list of which each item is kept once, with one item more.
use Rattle.std.proofs.Common.{◌≡◌, Bool, true, false, cond, not, ◌||◌, List, [], ◌∷◌, ◌++◌, filter, refl, sym, ap, ◌∙◌}
use Rattle.std.specs.List.{AllByRecursion, list_any}
use Rattle.std.proofs.lemmas.Bool.{false≢true, false_from_ne_true}
use Rattle.std.proofs.lemmas.List.{append-nil}
use Rattle.std.proofs.lemmas.List.Elements.{filter-append}
use Rattle.link_core.specs.Lists.{once}

module _ {A : Type 0} (same : A → A → Bool) (is : (a b : A) → same a b ≡ true → a ≡ b) (itself : (a : A) → same a a ≡ true) where
  abbrev other_than : A → List A → List A
  other_than x xs = filter (λ y. not (same x y)) xs

  pub other_way : (a b : A) → same a b ≡ false → same b a ≡ false
  other_way a b e = false_from_ne_true (same b a) (λ h. false≢true (sym e ∙ ap (same a) (is b a h) ∙ itself a))

  -- what isn't the same as x may be left out where x is looked for
  any_other : (x y : A) (xs : List A) → same x y ≡ false → list_any (same x) (other_than y xs) ≡ list_any (same x) xs
  any_other x y [] e = refl
  any_other x y (z ∷ zs) e = by (same y z) refl (any_other x y zs e)
    where
      by : (t : Bool) → same y z ≡ t → list_any (same x) (other_than y zs) ≡ list_any (same x) zs
          → list_any (same x) (cond (not t) (z ∷ other_than y zs) (other_than y zs)) ≡ (same x z || list_any (same x) zs)
      by false f rest = ap (λ b. same x z || b) rest
      by true f rest =
          let differs : same x z ≡ false = sym (ap (same x) (is y z f)) ∙ e in
          rest ∙ sym (ap (λ b. b || list_any (same x) zs) differs)

  pub any_once : (x : A) (xs : List A) → list_any (same x) (once same xs) ≡ list_any (same x) xs
  any_once x [] = refl
  any_once x (y ∷ xs) = by (same x y) refl (any_once x xs)
    where
      by : (t : Bool) → same x y ≡ t → list_any (same x) (once same xs) ≡ list_any (same x) xs
          → (t || list_any (same x) (other_than y (once same xs))) ≡ (t || list_any (same x) xs)
      by true e rest = refl
      by false e rest = any_other x y (once same xs) e ∙ rest

  -- one item more is left out where it is there
  pub once_more : (xs : List A) (x : A) → once same (xs ++ x ∷ []) ≡ cond (list_any (same x) (once same xs)) (once same xs) (once same xs ++ x ∷ [])
  once_more [] x = refl
  once_more (y ∷ xs) x = ap (λ ys. y ∷ other_than y ys) (once_more xs x) ∙ by (same x y) refl
    where
      zs : List A
      zs = once same xs

      last : other_than y (zs ++ x ∷ []) ≡ other_than y zs ++ other_than y (x ∷ [])
      last = filter-append (λ z. not (same y z)) zs (x ∷ [])

      there : same y x ≡ true → (u : Bool) → other_than y (cond u zs (zs ++ x ∷ [])) ≡ other_than y zs
      there e true = refl
      there e false = last ∙ ap (λ t. other_than y zs ++ cond (not t) (x ∷ []) []) e ∙ append-nil (other_than y zs)

      fresh : same y x ≡ false → (u : Bool) → other_than y (cond u zs (zs ++ x ∷ [])) ≡ cond u (other_than y zs) (other_than y zs ++ x ∷ [])
      fresh e true = refl
      fresh e false = last ∙ ap (λ t. other_than y zs ++ cond (not t) (x ∷ []) []) e

      headed : (u : Bool) → y ∷ cond u (other_than y zs) (other_than y zs ++ x ∷ []) ≡ cond u (y ∷ other_than y zs) (y ∷ (other_than y zs ++ x ∷ []))
      headed true = refl
      headed false = refl

      by : (t : Bool) → same x y ≡ t → y ∷ other_than y (cond (list_any (same x) zs) zs (zs ++ x ∷ []))
          ≡ cond (t || list_any (same x) (other_than y zs)) (y ∷ other_than y zs) (y ∷ (other_than y zs ++ x ∷ []))
      by true e =
          let back : same y x ≡ true = sym (ap (λ z. same z x) (is x y e)) ∙ itself x in
          ap (λ ys. y ∷ ys) (there back (list_any (same x) zs))
      by false e =
          ap (λ ys. y ∷ ys) (fresh (other_way x y e) (list_any (same x) zs))
          ∙ headed (list_any (same x) zs)
          ∙ ap (λ u. cond u (y ∷ other_than y zs) (y ∷ (other_than y zs ++ x ∷ []))) (sym (any_other x y zs e))

  parted : (a b : Bool) → (a || b) ≡ false → (a ≡ false) × (b ≡ false)
  parted true b none = cc
  parted false b none = (refl, none)

  pub all_differ : (x : A) (xs : List A) → list_any (same x) xs ≡ false → AllByRecursion (λ y. same x y ≡ false) xs
  all_differ x [] none = tt
  all_differ x (y ∷ ys) none =
      let parts = parted (same x y) (list_any (same x) ys) none in (parts.0, all_differ x ys parts.1)
