-- The least of the names that a library wants in vain is the first of them in byte order.
use Rattle.std.proofs.Common.{◌≡◌, ℕ, ◌+◌, ◌<◌, Bool, true, false, ◌&&◌, ◌||◌, cond, List, [], ◌∷◌, length, get_or, drop, map, Option, Some, None, option_map, refl, sym, ap, ◌∙◌, subst, arith}
use Rattle.std.specs.declared.cmp.Ordering.{Ordering}
use Rattle.std.specs.declared.cmp.Ordering.TheVariants.{Less, Equal, Greater}
use Rattle.std.specs.Ordering.{is_lt, match_ordering}
use Rattle.std.specs.List.{find, filter_map, cons_option, list_all, list_any, slice_get}
use Rattle.std.specs.Option.{option_flatten}
use Rattle.std.proofs.lemmas.Bool.{and_parts, and_from}
use Rattle.std.proofs.lemmas.List.{at_drop_more, drop_all}
use Rattle.std.proofs.lemmas.Option.{slice_get-get_or}
use Rattle.ifs_interface.specs.Facts.{Facts, AreWanted, strength_at, together, wanted_among, wanted_names}
use Rattle.ifs_interface.specs.Interface.{ascends, comes_before}
use Rattle.ifs_interface.specs.Extracted.{insert_name, in_order}
use Rattle.ifs_interface.specs.Triple.{same_name}
use Rattle.ifs_interface.proofs.InOrder.{has, has_in_order, in_order_ascends, ascending_unique}
use Rattle.ifs_interface.proofs.Names.{same_name-is, names_order}
use Rattle.ifs_interface.proofs.NameOrder.{after_differs, compared, equal_is, greater_back}
use Rattle.link_core.specs.Lists.{first_some}
use Rattle.link_wants.specs.Least.{least_from, lesser, missing_place, missing_wanted}

abbrev pub Place : Type 0
Place = Option (List ℕ × Bool)

-- ---- the first in order is the least

head_placed : (o : Ordering) (n m : List ℕ) (ms rest : List (List ℕ)) → compared n m ≡ o → slice_get (match_ordering o (n ∷ m ∷ ms) (m ∷ ms) (m ∷ rest)) 0 ≡ cond (comes_before m n) (Some m) (Some n)
head_placed Less n m ms rest e =
    let later : comes_before m n ≡ false = names_order.one_way n m (ap is_lt e) in
    sym (ap (λ t. cond t (Some m) (Some n)) later)
head_placed Equal n m ms rest e =
    let same : n ≡ m = equal_is n m e in
    elim (comes_before m n) as (λ t. Some m ≡ cond t (Some m) (Some n)) [ true ↦ refl | false ↦ ap Some (sym same) ]
head_placed Greater n m ms rest e = sym (ap (λ t. cond t (Some m) (Some n)) (greater_back n m e))

head_inserted : (n : List ℕ) (ms : List (List ℕ)) → slice_get (insert_name n ms) 0 ≡ lesser (Some n) (slice_get ms 0)
head_inserted n [] = refl
head_inserted n (m ∷ ms) = head_placed (compared n m) n m ms (insert_name n ms) refl

module _ (missing : List ℕ → Bool) where
  -- the missing names at places
  abbrev pub at_places : List Place → List (List ℕ)
  at_places places = filter_map (missing_place missing) places

  least_by : (o : Option (List ℕ)) (places : List Place) → least_from missing places ≡ slice_get (in_order (at_places places)) 0 → lesser o (least_from missing places) ≡ slice_get (in_order (cons_option o (at_places places))) 0
  least_by None places rest = rest
  least_by (Some n) places rest = ap (lesser (Some n)) rest ∙ sym (head_inserted n (in_order (at_places places)))

  least_is_first : (places : List Place) → least_from missing places ≡ slice_get (in_order (at_places places)) 0
  least_is_first [] = refl
  least_is_first (place ∷ places) = least_by (missing_place missing place) places (least_is_first places)

  -- ---- which names they are

  abbrev is_strong : Option Bool → Bool
  is_strong None = false
  is_strong (Some strong) = strong

  strong_together : (strengths : List Bool) → is_strong (together strengths) ≡ list_any (λ s. s) strengths
  strong_together [] = refl
  strong_together (s ∷ ss) = refl

  one_place : (w : List ℕ × Bool) (q : List ℕ) (rest : List (List ℕ)) (others : List Bool) → has q rest ≡ (list_any (λ s. s) others && missing q) → (same : Bool) → same_name w.0 q ≡ same → has q (cons_option (missing_wanted missing w) rest) ≡ (list_any (λ s. s) (cons_option (cond same (Some w.1) None) others) && missing q)
  one_place w q rest others so_far true e =
      let asked : missing w.0 ≡ missing q = ap missing (same_name-is w.0 q e) in
      ap (λ t. has q (cons_option (cond (w.1 && t) (Some w.0) None) rest)) asked
      ∙ by w.1 (missing q) (list_any (λ s. s) others) so_far
    where
      by : (strong asks left : Bool) → has q rest ≡ (left && asks) → has q (cons_option (cond (strong && asks) (Some w.0) None) rest) ≡ ((strong || left) && asks)
      by true true left f = ap (λ t. t || has q rest) e
      by true false true f = f
      by true false false f = f
      by false asks left f = f
  one_place w q rest others so_far false e =
      elim (w.1 && missing w.0) as (λ t. has q (cons_option (cond t (Some w.0) None) rest) ≡ (list_any (λ s. s) others && missing q))
      [ true ↦ ap (λ t. t || has q rest) e ∙ so_far | false ↦ so_far ]

  has_at : (q : List ℕ) (places : List Place) → has q (at_places places) ≡ (list_any (λ s. s) (filter_map (strength_at q) places) && missing q)
  has_at q [] = refl
  has_at q (None ∷ places) = has_at q places
  has_at q (Some w ∷ places) = one_place w q (at_places places) (filter_map (strength_at q) places) (has_at q places) (same_name w.0 q) refl

  has_places : (q : List ℕ) (places : List Place) → has q (at_places places) ≡ (is_strong (wanted_among places q) && missing q)
  unfolding wanted_among
  has_places q places = has_at q places ∙ ap (λ t. t && missing q) (sym (strong_together (filter_map (strength_at q) places)))

  -- ---- among the wanted names, in byte order

  abbrev pub among : List (List ℕ × Bool) → List (List ℕ)
  among wanted = filter_map (missing_wanted missing) wanted

  abbrev names : List (List ℕ × Bool) → List (List ℕ)
  names wanted = map (λ w. w.0) wanted

  all_among : (p : List ℕ → Bool) (wanted : List (List ℕ × Bool)) → list_all p (names wanted) ≡ true → list_all p (among wanted) ≡ true
  all_among p [] h = refl
  all_among p (w ∷ ws) h =
      let parts = and_parts (p w.0) (list_all p (names ws)) h in
      let rest = all_among p ws parts.1 in
      elim (w.1 && missing w.0) as (λ t. list_all p (cons_option (cond t (Some w.0) None) (among ws)) ≡ true)
      [ true ↦ and_from (p w.0) (list_all p (among ws)) parts.0 rest | false ↦ rest ]

  among_ascends : (wanted : List (List ℕ × Bool)) → ascends (names wanted) ≡ true → ascends (among wanted) ≡ true
  among_ascends [] h = refl
  among_ascends (w ∷ ws) h =
      let parts = and_parts (list_all (comes_before w.0) (names ws)) (ascends (names ws)) h in
      let rest = among_ascends ws parts.1 in
      elim (w.1 && missing w.0) as (λ t. ascends (cons_option (cond t (Some w.0) None) (among ws)) ≡ true)
      [ true ↦ and_from (list_all (comes_before w.0) (among ws)) (ascends (among ws)) (all_among (comes_before w.0) ws parts.0) rest | false ↦ rest ]

  none_before : (q : List ℕ) (ns : List (List ℕ)) → list_all (comes_before q) ns ≡ true → has q ns ≡ false
  none_before q [] h = refl
  none_before q (n ∷ ns) h =
      let parts = and_parts (comes_before q n) (list_all (comes_before q) ns) h in
      ap (λ t. t || has q ns) (after_differs q n parts.0) ∙ none_before q ns parts.1

  abbrev wanted_in : List (List ℕ × Bool) → List ℕ → Option Bool
  wanted_in wanted q = option_map (λ w. w.1) (find (λ w. same_name w.0 q) wanted)

  one_wanted : (w : List ℕ × Bool) (ws : List (List ℕ × Bool)) (q : List ℕ) → list_all (comes_before w.0) (names ws) ≡ true → has q (among ws) ≡ (is_strong (wanted_in ws q) && missing q) → (same : Bool) → same_name w.0 q ≡ same → has q (cons_option (missing_wanted missing w) (among ws)) ≡ (is_strong (option_map (λ v. v.1) (cond same (Some w) (find (λ v. same_name v.0 q) ws))) && missing q)
  one_wanted w ws q up so_far true e =
      let asked : missing w.0 ≡ missing q = ap missing (same_name-is w.0 q e) in
      let none : has q (among ws) ≡ false = none_before q (among ws) (subst (λ n. list_all (comes_before n) (among ws) ≡ true) (same_name-is w.0 q e) (all_among (comes_before w.0) ws up)) in
      ap (λ t. has q (cons_option (cond (w.1 && t) (Some w.0) None) (among ws))) asked
      ∙ by w.1 (missing q) none
    where
      by : (strong asks : Bool) → has q (among ws) ≡ false → has q (cons_option (cond (strong && asks) (Some w.0) None) (among ws)) ≡ (strong && asks)
      by true true none = ap (λ t. t || has q (among ws)) e
      by true false none = none
      by false asks none = none
  one_wanted w ws q up so_far false e =
      elim (w.1 && missing w.0) as (λ t. has q (cons_option (cond t (Some w.0) None) (among ws)) ≡ (is_strong (wanted_in ws q) && missing q))
      [ true ↦ ap (λ t. t || has q (among ws)) e ∙ so_far | false ↦ so_far ]

  has_wanted : (q : List ℕ) (wanted : List (List ℕ × Bool)) → ascends (names wanted) ≡ true → has q (among wanted) ≡ (is_strong (wanted_in wanted q) && missing q)
  has_wanted q [] h = refl
  has_wanted q (w ∷ ws) h =
      let parts = and_parts (list_all (comes_before w.0) (names ws)) (ascends (names ws)) h in
      one_wanted w ws q parts.0 (has_wanted q ws parts.1) (same_name w.0 q) refl

  -- ---- together

  pub least_is : (facts : Facts) (places : List Place) → AreWanted facts places → ascends (wanted_names facts) ≡ true → least_from missing places ≡ first_some (missing_wanted missing) facts.wanted
  least_is facts places are up =
      let same : in_order (at_places places) ≡ among facts.wanted =
      ascending_unique (in_order (at_places places)) (among facts.wanted) (in_order_ascends (at_places places)) (among_ascends facts.wanted up)
      (λ q. has_in_order q (at_places places) ∙ has_places q places ∙ ap (λ o. is_strong o && missing q) (are q) ∙ sym (has_wanted q facts.wanted up)) in
      least_is_first places ∙ ap (λ ns. slice_get ns 0) same

  -- a turn of the pass, which goes from the last place to the first
  pub least_more : (places : List Place) (i j : ℕ) (place : Place) (o least : Option (List ℕ)) → i < length places → j ≡ i + 1 → place ≡ option_flatten (slice_get places i) → o ≡ missing_place missing place → least ≡ least_from missing (drop j places) → lesser o least ≡ least_from missing (drop i places)
  least_more places i j place o least h next gives is so_far =
      let at : place ≡ get_or places i None = gives ∙ ap option_flatten (slice_get-get_or places i None h) in
      (λ k. lesser ((is ∙ ap (missing_place missing) at) k) ((so_far ∙ ap (λ n. least_from missing (drop n places)) next) k))
      ∙ sym (at_drop_more (least_from missing) places i None h)

  pub least_start : (places : List Place) (i : ℕ) → i ≡ length places → None ≡ least_from missing (drop i places)
  least_start places i e = sym (ap (least_from missing) (drop_all i places (omega arith)))
