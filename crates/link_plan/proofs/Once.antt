-- Items that are put last unless they are there are each item once, in order of the first.
use Rattle.std.proofs.Common.{◌≡◌, Bool, true, false, not, cond, ◌&&◌, ◌||◌, if◌then◌else◌, List, [], ◌∷◌, ◌++◌, filter, filter_map, Option, Some, None, refl, sym, ap, ◌∙◌, append_assoc}
use Rattle.std.specs.Prelude.{fold}
use Rattle.std.specs.List.{list_any, cons_option}
use Rattle.std.specs.Option.{option_to_list}
use Rattle.std.specs.Cmp.{IsEquivalence}
use Rattle.std.proofs.lemmas.List.{append-nil}
use Rattle.std.proofs.lemmas.List.Folds.{list_any-append}
use Rattle.link_core.specs.Lists.{once}
use Rattle.link_needs.specs.Needs.{put}

-- ---- filters

module _ {A : Type 0} where
  filters : (p q r : A → Bool) → ((y : A) → (q y && p y) ≡ r y) → (l : List A)
      → filter p (filter q l) ≡ filter r l
  filters p q r h [] = refl
  filters p q r h (y ∷ ys) = by (q y) (p y) (r y) (h y) refl (filters p q r h ys)
    where
      by : (a b c : Bool) → (a && b) ≡ c → p y ≡ b → filter p (filter q ys) ≡ filter r ys
          → filter p (cond a (y ∷ filter q ys) (filter q ys)) ≡ cond c (y ∷ filter r ys) (filter r ys)
      by true b c e g rest =
          ap (λ t. cond t (y ∷ filter p (filter q ys)) (filter p (filter q ys))) (g ∙ e)
          ∙ ap (λ zs. cond c (y ∷ zs) zs) rest
      by false b c e g rest = rest ∙ ap (λ t. cond t (y ∷ filter r ys) (filter r ys)) e

  filter_whole : (l : List A) → filter (λ y. true) l ≡ l
  filter_whole [] = refl
  filter_whole (y ∷ ys) = ap (λ zs. y ∷ zs) (filter_whole ys)

-- ---- what is put

module _ {A : Type 0} (same : A → A → Bool) (laws : IsEquivalence same) where
  abbrev seen : List A → A → Bool
  seen xs y = list_any (same y) xs

  abbrev unseen : List A → A → Bool
  unseen xs y = not (seen xs y)

  -- what is the same is seen where the other is
  seen_as : (xs : List A) (x y : A) → same x y ≡ true → seen xs x ≡ seen xs y
  seen_as [] x y e = refl
  seen_as (z ∷ zs) x y e =
      ap (λ t. t || seen zs x) (laws.congr x y z e) ∙ ap (λ t. same y z || t) (seen_as zs x y e)

  kept_out : (xs : List A) (x y : A) → seen xs x ≡ true → (not (same x y) && unseen xs y) ≡ unseen xs y
  kept_out xs x y h = by (same x y) refl
    where
      by : (t : Bool) → same x y ≡ t → (not t && unseen xs y) ≡ unseen xs y
      by true e = sym (ap not (sym (seen_as xs x y e) ∙ h))
      by false e = refl

  both_not : (a b : Bool) → (not a && not b) ≡ not (b || (a || false))
  both_not true true = refl
  both_not true false = refl
  both_not false true = refl
  both_not false false = refl

  put_out : (xs : List A) (x y : A) → (not (same x y) && unseen xs y) ≡ unseen (xs ++ x ∷ []) y
  put_out xs x y =
      both_not (same x y) (seen xs y) ∙ ap (λ t. not (seen xs y || (t || false))) (laws.symm x y)
      ∙ sym (ap not (list_any-append (same y) xs (x ∷ [])))

  module _ {N : Type 0} (f : N → Option A) where
    abbrev puts : List A → List N → List A
    puts xs ns = fold (λ zs n. put same zs (f n)) xs ns

    abbrev left : List A → List A → List A
    left xs l = xs ++ filter (unseen xs) l

    -- what comes after an item, without those that are the same
    abbrev others : A → List A → List A
    others x l = filter (λ y. not (same x y)) (once same l)

    left_more : (xs : List A) (x : A) (l : List A) (t : Bool) → seen xs x ≡ t
        → left xs (x ∷ others x l)
        ≡ xs ++ cond (not t) (x ∷ filter (unseen xs) (others x l)) (filter (unseen xs) (others x l))
    left_more xs x l t e =
        ap (λ b. xs ++ cond (not b) (x ∷ filter (unseen xs) (others x l)) (filter (unseen xs) (others x l))) e

    one_more : (xs : List A) (ns : List N) (l : List A) (o : Option A)
        → ((zs : List A) → puts zs ns ≡ left zs (once same l))
        → puts (put same xs o) ns ≡ left xs (once same (cons_option o l))
    one_more xs ns l None rest = rest xs
    one_more xs ns l (Some x) rest = by (seen xs x) refl
      where
        by : (t : Bool) → seen xs x ≡ t
            → puts (if t then xs else xs ++ x ∷ []) ns ≡ left xs (x ∷ others x l)
        by true e =
            rest xs
            ∙ sym (ap (λ zs. xs ++ zs)
            (filters (unseen xs) (λ y. not (same x y)) (unseen xs) (λ y. kept_out xs x y e) (once same l)))
            ∙ sym (left_more xs x l true e)
        by false e =
            rest (xs ++ x ∷ []) ∙ append_assoc xs (x ∷ []) (filter (unseen (xs ++ x ∷ [])) (once same l))
            ∙ sym (ap (λ zs. xs ++ x ∷ zs)
            (filters (unseen xs) (λ y. not (same x y)) (unseen (xs ++ x ∷ [])) (put_out xs x) (once same l)))
            ∙ sym (left_more xs x l false e)

    puts_are : (ns : List N) (xs : List A) → puts xs ns ≡ left xs (once same (filter_map f ns))
    puts_are [] xs = sym (append-nil xs)
    puts_are (n ∷ ns) xs = one_more xs ns (filter_map f ns) (f n) (puts_are ns)

    -- into an empty list
    pub puts_once : (ns : List N) → puts [] ns ≡ once same (filter_map f ns)
    puts_once ns = puts_are ns [] ∙ filter_whole (once same (filter_map f ns))

-- items behind each other
pub pushed : {A N : Type 0} (f : N → Option A) (ns : List N) (xs : List A)
    → fold (λ zs n. zs ++ option_to_list (f n)) xs ns ≡ xs ++ filter_map f ns
pushed {A} f [] xs = sym (append-nil xs)
pushed {A} f (n ∷ ns) xs =
    pushed f ns (xs ++ option_to_list (f n))
    ∙ append_assoc xs (option_to_list (f n)) (filter_map f ns)
    ∙ ap (λ zs. xs ++ zs) (front (f n) (filter_map f ns))
  where
    front : (o : Option A) (zs : List A) → option_to_list o ++ zs ≡ cons_option o zs
    front None zs = refl
    front (Some x) zs = refl
