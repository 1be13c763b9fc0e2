-- Lists that ascend, built from lists that do.
use Rattle.std.proofs.Common.{◌≡◌, Bool, true, false, cond, List, [], ◌∷◌, ◌++◌, filter, map}
use Rattle.std.specs.List.{AllByRecursion}
use Rattle.link_order.specs.Order.{Ascends}

-- ---- what holds of all

module _ {A : Type 0} where
  pub all_append : (P : A → Type 0) (xs ys : List A) → AllByRecursion P xs → AllByRecursion P ys
      → AllByRecursion P (xs ++ ys)
  all_append P [] ys h k = k
  all_append P (x ∷ xs) ys h k = (h.0, all_append P xs ys h.1 k)

  pub all_weaker : (P Q : A → Type 0) → ((x : A) → P x → Q x) → (xs : List A) → AllByRecursion P xs
      → AllByRecursion Q xs
  all_weaker P Q f [] h = tt
  all_weaker P Q f (x ∷ xs) h = (f x h.0, all_weaker P Q f xs h.1)

  kept_if : (P : A → Type 0) (b : Bool) (x : A) (xs : List A) → P x → AllByRecursion P xs
      → AllByRecursion P (cond b (x ∷ xs) xs)
  kept_if P true x xs h hs = (h, hs)
  kept_if P false x xs h hs = hs

  pub all_filter : (P : A → Type 0) (p : A → Bool) (xs : List A) → AllByRecursion P xs
      → AllByRecursion P (filter p xs)
  all_filter P p [] h = tt
  all_filter P p (x ∷ xs) h = kept_if P (p x) x (filter p xs) h.0 (all_filter P p xs h.1)

pub all_map : {A B : Type 0} (f : A → B) (P : B → Type 0) (Q : A → Type 0) → ((x : A) → Q x → P (f x))
    → (xs : List A) → AllByRecursion Q xs → AllByRecursion P (map f xs)
all_map f P Q g [] h = tt
all_map f P Q g (x ∷ xs) h = (g x h.0, all_map f P Q g xs h.1)

-- ---- what ascends

module _ {A : Type 0} (before : A → A → Bool) where
  pub ascends_append : (xs ys : List A) → Ascends before xs → Ascends before ys
      → AllByRecursion (λ x. AllByRecursion (λ y. before x y ≡ true) ys) xs → Ascends before (xs ++ ys)
  ascends_append [] ys a b c = b
  ascends_append (x ∷ xs) ys a b c =
      (all_append (λ y. before x y ≡ true) xs ys a.0 c.0, ascends_append xs ys a.1 b c.1)

  ascends_if : (b : Bool) (x : A) (xs : List A) → AllByRecursion (λ y. before x y ≡ true) xs
      → Ascends before xs → Ascends before (cond b (x ∷ xs) xs)
  ascends_if true x xs h a = (h, a)
  ascends_if false x xs h a = a

  pub ascends_filter : (p : A → Bool) (xs : List A) → Ascends before xs → Ascends before (filter p xs)
  ascends_filter p [] a = tt
  ascends_filter p (x ∷ xs) a =
      ascends_if (p x) x (filter p xs) (all_filter (λ y. before x y ≡ true) p xs a.0)
      (ascends_filter p xs a.1)

pub ascends_map : {A B : Type 0} (f : A → B) (first : A → A → Bool) (before : B → B → Bool)
    → ((x y : A) → first x y ≡ true → before (f x) (f y) ≡ true) → (xs : List A) → Ascends first xs
    → Ascends before (map f xs)
ascends_map f first before g [] a = tt
ascends_map f first before g (x ∷ xs) a = (
  all_map f (λ y. before (f x) y ≡ true) (λ y. first x y ≡ true) (g x) xs a.0,
  ascends_map f first before g xs a.1,
)
