-- A stable sort of symbols, and those of each key in it.
use Rattle.std.proofs.Common.{◌≡◌, ℕ, Bool, true, List, [], ◌∷◌, filter, refl, sym, ◌∙◌, subst}
use Rattle.std.specs.List.{list_all}
use Rattle.std.proofs.lemmas.Bool.{and_parts}
use Rattle.std.specs.List.Sorted.{IsStableBy, ties}
use Rattle.std.specs.Cmp.{IsStrictWeakOrder}
use Rattle.std.specs.Cmp.Lexicographic.{nat_list_cmp_total}
use Rattle.std.proofs.lemmas.List.Elements.{filter_agree}
use Rattle.std.proofs.lemmas.List.Sorted.{ranks_by}
use Rattle.ifs_interface.specs.Triple.{same_name}
use Rattle.ifs_interface.specs.Interface.{comes_before}
use Rattle.ifs_interface.proofs.Names.{same_name-is}
use Rattle.ifs_interface.proofs.NameOrder.{same_ties}
use Rattle.ifs_interface.proofs.Groups.{group_is_named}
use Rattle.tbd_core.specs.Groups.{of_key}

module _ {X : Type 0} (key : X → List ℕ) where
  abbrev pub before : X → X → Bool
  before one other = comes_before (key one) (key other)

  pub before_ranks : IsStrictWeakOrder before
  before_ranks = ranks_by nat_list_cmp_total key

  by_ties : (x : X) (xs : List X) → of_key key (key x) xs ≡ filter (ties before x) xs
  by_ties x xs = filter_agree (λ y. same_name (key y) (key x)) (ties before x) (λ y. same_ties (key y) (key x)) xs

  keeps_of : (old new : List X) → IsStableBy before old new → (x : X) → of_key key (key x) new ≡ of_key key (key x) old
  keeps_of old new stable x = by_ties x new ∙ stable x ∙ sym (by_ties x old)

  first_has : (k : List ℕ) (x : X) (xs all : List X) → of_key key k all ≡ x ∷ xs → key x ≡ k
  first_has k x xs all e =
      let each : list_all (λ y. same_name (key y) k) (x ∷ xs) ≡ true = subst (λ ys. list_all (λ y. same_name (key y) k) ys ≡ true) e (group_is_named key k all) in
      same_name-is (key x) k (and_parts (same_name (key x) k) (list_all (λ y. same_name (key y) k) xs) each).0

  pub stable_keeps : (old new : List X) → IsStableBy before old new → (k : List ℕ) → of_key key k new ≡ of_key key k old
  stable_keeps old new stable k = by (of_key key k new) (of_key key k old) refl refl
    where
      by : (ns os : List X) → of_key key k new ≡ ns → of_key key k old ≡ os → of_key key k new ≡ of_key key k old
      by [] [] e f = e ∙ sym f
      by (x ∷ xs) os e f = subst (λ j. of_key key j new ≡ of_key key j old) (first_has k x xs new e) (keeps_of old new stable x)
      by [] (x ∷ xs) e f = subst (λ j. of_key key j new ≡ of_key key j old) (first_has k x xs old f) (keeps_of old new stable x)
