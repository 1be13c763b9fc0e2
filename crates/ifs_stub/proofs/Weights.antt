-- Sums over lists, and over what is kept of them.
use Rattle.std.proofs.Common.{◌≡◌, ℕ, ◌+◌, ◌≤◌, List, [], ◌∷◌, length, Option, Some, None, refl, arith}
use Rattle.std.specs.List.{filter_map, cons_option, sum_by}
use Rattle.std.specs.declared.cmp.Ordering.TheVariants.{Less, Equal, Greater}
use Rattle.std.specs.Ordering.{nat_cmp, match_ordering}
use Rattle.std.specs.Cmp.Lexicographic.{slice_cmp}
use Rattle.std.proofs.lemmas.List.Sums.{sum_by-cons}
use Rattle.ifs_interface.specs.Extracted.{insert_name, in_order}

-- a list has as many elements as the sum of one for each
pub length_by_sum : {X : Type 0} (xs : List X) → length xs ≡ sum_by (λ x. 1) xs
length_by_sum [] = refl
length_by_sum (x ∷ xs) = omega (arith, length_by_sum xs, sum_by-cons (λ y. 1) x xs)

-- of a value, if there is one
abbrev pub weight : {X : Type 0} → (X → ℕ) → Option X → ℕ
weight f None = 0
weight f (Some x) = f x

sum_with : {X : Type 0} (f : X → ℕ) (o : Option X) (xs : List X) → sum_by f (cons_option o xs) ≡ weight f o + sum_by f xs
sum_with f None xs = omega arith
sum_with f (Some x) xs = sum_by-cons f x xs

pub sum_of_kept : {I X : Type 0} (f : X → ℕ) (g : I → Option X) (h : I → ℕ) → ((i : I) → weight f (g i) ≤ h i) → (is : List I) → sum_by f (filter_map g is) ≤ sum_by h is
sum_of_kept f g h least [] = omega arith
sum_of_kept f g h least (i ∷ is) =
    omega (arith, sum_with f (g i) (filter_map g is), sum_by-cons h i is, least i, sum_of_kept f g h least is)

-- names in order, each once
sum_of_inserted : (f : List ℕ → ℕ) (n : List ℕ) (ms : List (List ℕ)) → sum_by f (insert_name n ms) ≤ f n + sum_by f ms
sum_of_inserted f n [] = omega (arith, sum_by-cons f n [])
sum_of_inserted f n (m ∷ ms) =
    let rest = sum_of_inserted f n ms in
    let both = sum_by-cons f m ms in
    elim (slice_cmp nat_cmp n m) as (λ o. sum_by f (match_ordering o (n ∷ m ∷ ms) (m ∷ ms) (m ∷ insert_name n ms)) ≤ f n + sum_by f (m ∷ ms)) [
      | Less ↦ omega (arith, sum_by-cons f n (m ∷ ms))
      | Equal ↦ omega arith
      | Greater ↦ omega (arith, rest, both, sum_by-cons f m (insert_name n ms))
    ]

pub sum_of_ordered : (f : List ℕ → ℕ) (ns : List (List ℕ)) → sum_by f (in_order ns) ≤ sum_by f ns
sum_of_ordered f [] = omega arith
sum_of_ordered f (n ∷ ns) = omega (arith, sum_of_inserted f n (in_order ns), sum_by-cons f n ns, sum_of_ordered f ns)
