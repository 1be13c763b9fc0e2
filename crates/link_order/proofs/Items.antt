-- What is found among items that each have a reference.
use Rattle.std.proofs.Common.{◌≡◌, ℕ, suc, zero, ◌+◌, ◌-◌, ◌≤◌, Bool, true, List, [], ◌∷◌, length, map, drop, take, Option, Some, cond, false, refl, sym, subst, ap, ◌∙◌}
use Rattle.std.specs.List.{AllByRecursion, find, slice_get}
use Rattle.std.specs.Prelude.{option_map, slice_range}
use Rattle.link_core.specs.declared.refusal.At.{At}
use Rattle.link_core.specs.Planned.{uses_by}
use Rattle.link_core.specs.References.{Use, at_of}
use Rattle.link_order.specs.Laws.{count_before, count_of}
use Rattle.link_order.specs.Order.{Ascends, at_before, is_before, is_of, use_before}
use Rattle.link_core.specs.Relocations.{same_place, use_at}
use Rattle.link_order.specs.Found.{IsRunOf, IsFoundAt, if_at}
use Rattle.link_order.proofs.Placed.{at_falls, found_at}
use Rattle.link_order.proofs.InLink.{uses_in_order}
use Rattle.link_order.proofs.Runs.{sections_runs}
use Rattle.link_order.proofs.Searched.{SplitsAt, all_always, count_is, count_mapped, partitioned, range_by, start_is}

module _ {X Y : Type 0} (f : X → Y) where
  all_unmapped : (P : Y → Type 0) (xs : List X) → AllByRecursion P (map f xs)
      → AllByRecursion (λ x. P (f x)) xs
  all_unmapped P [] h = tt
  all_unmapped P (x ∷ xs) h = (h.0, all_unmapped P xs h.1)

  ascends_unmapped :
      (before : Y → Y → Bool) (xs : List X) → Ascends before (map f xs)
      → Ascends (λ x y. before (f x) (f y)) xs
  ascends_unmapped before [] a = tt
  ascends_unmapped before (x ∷ xs) a =
      (all_unmapped (λ y. before (f x) y ≡ true) xs a.0, ascends_unmapped before xs a.1)

  take_mapped : (n : ℕ) (xs : List X) → take n (map f xs) ≡ map f (take n xs)
  take_mapped zero xs = refl
  take_mapped (suc n) [] = refl
  take_mapped (suc n) (x ∷ xs) = ap (λ ys. f x ∷ ys) (take_mapped n xs)

  drop_mapped : (n : ℕ) (xs : List X) → drop n (map f xs) ≡ map f (drop n xs)
  drop_mapped zero xs = refl
  drop_mapped (suc n) [] = refl
  drop_mapped (suc n) (x ∷ xs) = drop_mapped n xs

  range_mapped : (a b : ℕ) (xs : List X) → slice_range (map f xs) a b ≡ map f (slice_range xs a b)
  range_mapped a b xs = ap (take (b - a)) (drop_mapped a xs) ∙ take_mapped (b - a) (drop a xs)

module _ {X : Type 0} (use_of : X → Use) where
  -- two searches, one for the start and one among the rest, find the items of a section
  pub items_found :
      (xs rest : List X) (object section start count : ℕ) → start ≤ length xs → rest ≡ drop start xs
      → count ≤ length rest → SplitsAt (λ x. is_before object section (at_of (use_of x))) xs start
      → SplitsAt (λ x. is_of object section (at_of (use_of x))) rest count
      → IsRunOf use_of xs object section start (start + count)
  items_found xs rest object section start count within is some first second j read same =
      let at : X → At = λ x. at_of (use_of x) in
      let us = uses_by j in
      let up : Ascends use_before (map use_of xs) =
      subst (λ (vs : List Use). Ascends use_before vs) same
      (uses_in_order j.names.dropped j.objects read) in
      let in_order = ascends_unmapped use_of use_before xs up in
      let some_behind : count ≤ length (drop start xs) =
      subst (λ (ys : List X). count ≤ length ys) is some in
      let behind : SplitsAt (λ x. is_of object section (at x)) (drop start xs) count =
      subst (λ (ys : List X). SplitsAt (λ x. is_of object section (at x)) ys count) is second in
      let before_is : count_before object section us ≡ start =
      ap (count_before object section) same
      ∙ (count_mapped use_of (λ u. is_before object section (at_of u)) xs
      ∙ start_is object section at xs start count in_order within some_behind first behind) in
      let of_is : count_of object section us ≡ count =
      ap (count_of object section) same
      ∙ (count_mapped use_of (λ u. is_of object section (at_of u)) xs
      ∙ count_is object section at xs start count in_order within some_behind first behind) in
      sections_runs j object section read
      ∙ range_by us (count_before object section us) (count_of object section us) start count before_is of_is
      ∙ (ap (λ vs. slice_range vs start (start + count)) same
      ∙ range_mapped use_of start (start + count) xs)

  found_mapped :
      (p : Use → Bool) (xs : List X) → find p (map use_of xs)
      ≡ option_map use_of (find (λ x. p (use_of x)) xs)
  found_mapped p [] = refl
  found_mapped p (x ∷ xs) = by (p (use_of x)) (found_mapped p xs)
    where
      by :
          (b : Bool) → find p (map use_of xs) ≡ option_map use_of (find (λ y. p (use_of y)) xs)
          → cond b (Some (use_of x)) (find p (map use_of xs))
          ≡ option_map use_of (cond b (Some x) (find (λ y. p (use_of y)) xs))
      by true e = refl
      by false e = e

  -- a search finds the item of a place
  pub item_found :
      (xs : List X) (wanted : At) (n : ℕ) (found : Option X) → n ≤ length xs
      → SplitsAt (λ x. at_before (at_of (use_of x)) wanted) xs n
      → found ≡ if_at (λ x. same_place (at_of (use_of x)) wanted) (slice_get xs n)
      → IsFoundAt use_of xs wanted found
  unfolding use_at
  item_found xs wanted n found within split is j read same =
      let at : X → At = λ x. at_of (use_of x) in
      let up : Ascends use_before (map use_of xs) =
      subst (λ (vs : List Use). Ascends use_before vs) same
      (uses_in_order j.names.dropped j.objects read) in
      let in_order = ascends_unmapped use_of use_before xs up in
      let parts =
      split
      (partitioned (λ x y. at_before (at x) (at y)) (λ x. at_before (at x) wanted) (λ x. Unit {0})
      (λ x y. at_falls wanted (at x) (at y)) xs in_order
      (all_always (λ x. Unit {0}) (λ x. tt) xs)) in
      ap (find (λ u. same_place (at_of u) wanted)) same
      ∙ (found_mapped (λ u. same_place (at_of u) wanted) xs
      ∙ ap (option_map use_of) (found_at at wanted xs n in_order within parts ∙ sym is))
