-- Things with names, by their names: those of each name, the names in byte order. Where the things stand in byte
-- order of their names these are the runs of one name, one after another.
use Rattle.std.proofs.Common.{◌≡◌, ℕ, zero, suc, ◌+◌, Bool, true, false, not, cond, List, [], ◌∷◌, ◌++◌, map, filter, take, drop, length, ◌<◌, ◌≤◌, refl, sym, ap, ◌∙◌, subst, arith}
use Rattle.std.specs.List.{list_all, prefix_len}
use Rattle.std.proofs.lemmas.Bool.{and_parts, and_from, or_right, not-true}
use Rattle.std.proofs.lemmas.List.{append-nil, take-append-drop, length-drop, drop-drop}
use Rattle.std.proofs.lemmas.List.Elements.{filter-append}
use Rattle.std.proofs.lemmas.List.Folds.{list_all-map}
use Rattle.std.proofs.lemmas.List.Sums.{prefix_len-le-length}
use Rattle.ifs_interface.specs.Triple.{same_name}
use Rattle.ifs_interface.specs.Interface.{comes_before}
use Rattle.ifs_interface.specs.Extracted.{insert_name, in_order}
use Rattle.ifs_interface.proofs.Names.{same_name-is, same_name-itself, before_differs, before_of_rest, rises}
use Rattle.ifs_interface.proofs.Repeats.{list_all-weaker}
use Rattle.ifs_interface.proofs.NameOrder.{after_differs, before_later}
use Rattle.ifs_interface.proofs.Lists.{filter_all, filter_none, map_agree, any_map_of, any_by_filter, has_some}
use Rattle.ifs_interface.proofs.InOrder.{all_in_order, inserted_first, inserted_again, has, has_itself, has_in_order, in_order_ascends, ascending_unique}

abbrev not_before : List ℕ → List ℕ → Bool
not_before n m = not (comes_before m n)

-- names stand among themselves
all_have : (ns ms : List (List ℕ)) → ((q : List ℕ) → has q ns ≡ true → has q ms ≡ true) → list_all (λ n. has n ms) ns ≡ true
all_have [] ms h = refl
all_have (n ∷ ns) ms h =
    and_from (has n ms) (list_all (λ n. has n ms) ns) (h n (has_itself n ns)) (all_have ns ms (λ q e. h q (or_right (same_name n q) (has q ns) e)))

module _ {X : Type 0} (key : X → List ℕ) where
  -- the thing has the name; its name comes after the name
  abbrev pub is_named : List ℕ → X → Bool
  is_named n x = same_name (key x) n

  abbrev pub is_after : List ℕ → X → Bool
  is_after n x = comes_before n (key x)

  -- those of each name, by these names
  abbrev pub grouped : List X → List (List X)
  grouped xs = map (λ n. filter (is_named n) xs) (in_order (map key xs))

  -- ---- the front that has a name, and what is behind it

  front_named : (n : List ℕ) (xs : List X) → list_all (is_named n) (take (prefix_len (is_named n) xs) xs) ≡ true
  front_named n [] = refl
  front_named n (x ∷ xs) = by (is_named n x) refl (front_named n xs)
    where
      by : (t : Bool) → is_named n x ≡ t → list_all (is_named n) (take (prefix_len (is_named n) xs) xs) ≡ true → list_all (is_named n) (take (cond t (1 + prefix_len (is_named n) xs) 0) (x ∷ xs)) ≡ true
      by true e rest = let one : 1 + prefix_len (is_named n) xs ≡ suc (prefix_len (is_named n) xs) = omega arith in rw one (and_from (is_named n x) (list_all (is_named n) (take (prefix_len (is_named n) xs) xs)) e rest)
      by false e rest = refl

  behind_after : (n : List ℕ) (xs : List X) → rises (map key xs) ≡ true → list_all (not_before n) (map key xs) ≡ true → list_all (is_after n) (drop (prefix_len (is_named n) xs) xs) ≡ true
  behind_after n [] h g = refl
  behind_after n (x ∷ xs) h g =
      let up = and_parts (list_all (not_before (key x)) (map key xs)) (rises (map key xs)) h in
      let front = and_parts (not_before n (key x)) (list_all (not_before n) (map key xs)) g in
      by (is_named n x) refl up.0 front.0 (behind_after n xs up.1 front.1)
    where
      by : (t : Bool) → is_named n x ≡ t → list_all (not_before (key x)) (map key xs) ≡ true → not_before n (key x) ≡ true → list_all (is_after n) (drop (prefix_len (is_named n) xs) xs) ≡ true → list_all (is_after n) (drop (cond t (1 + prefix_len (is_named n) xs) 0) (x ∷ xs)) ≡ true
      by true e up front rest = let one : 1 + prefix_len (is_named n) xs ≡ suc (prefix_len (is_named n) xs) = omega arith in rw one rest
      by false e up front rest =
          let here : is_after n x ≡ true = before_of_rest n (key x) (not-true (comes_before (key x) n) front) e in
          let each : list_all (λ later. not_before (key x) (key later)) xs ≡ true = sym (list_all-map (not_before (key x)) key xs) ∙ up in
          and_from (is_after n x) (list_all (is_after n) xs) here (list_all-weaker (λ later. not_before (key x) (key later)) (is_after n) (λ later g. before_later n (key x) (key later) here g) xs each)

  pub rises_behind : (k : ℕ) (xs : List X) → rises (map key xs) ≡ true → rises (map key (drop k xs)) ≡ true
  rises_behind zero xs h = h
  rises_behind (suc k) [] h = h
  rises_behind (suc k) (x ∷ xs) h = rises_behind k xs (and_parts (list_all (not_before (key x)) (map key xs)) (rises (map key xs)) h).1

  -- ---- a run of one name, and things whose names come after it

  -- their names in order: the name, and the names of what is behind
  in_order_run : (n : List ℕ) (x : X) (run others : List X) → list_all (is_named n) (x ∷ run) ≡ true → list_all (is_after n) others ≡ true → in_order (map key ((x ∷ run) ++ others)) ≡ n ∷ in_order (map key others)
  in_order_run n x [] others h g =
      let parts = and_parts (is_named n x) true h in
      let after : list_all (comes_before n) (in_order (map key others)) ≡ true = all_in_order (comes_before n) (map key others) (list_all-map (comes_before n) key others ∙ g) in
      ap (λ m. insert_name m (in_order (map key others))) (same_name-is (key x) n parts.0) ∙ inserted_first n (in_order (map key others)) after
  in_order_run n x (next ∷ run) others h g =
      let parts = and_parts (is_named n x) (list_all (is_named n) (next ∷ run)) h in
      ap (insert_name (key x)) (in_order_run n next run others parts.1 g) ∙ ap (λ m. insert_name m (n ∷ in_order (map key others))) (same_name-is (key x) n parts.0) ∙ inserted_again n (in_order (map key others))

  -- those of the name are the run
  named_in_run : (n : List ℕ) (run others : List X) → list_all (is_named n) run ≡ true → list_all (is_after n) others ≡ true → filter (is_named n) (run ++ others) ≡ run
  named_in_run n run others h g =
      filter-append (is_named n) run others ∙ ap (λ xs. xs ++ filter (is_named n) others) (filter_all (is_named n) run h) ∙ ap (λ xs. run ++ xs) (filter_none (is_named n) (is_after n) (λ x e. after_differs n (key x) e) others g) ∙ append-nil run

  -- those of a later name are behind the run
  named_later : (n m : List ℕ) (run others : List X) → list_all (is_named n) run ≡ true → comes_before n m ≡ true → filter (is_named m) (run ++ others) ≡ filter (is_named m) others
  named_later n m run others h g =
      let differs : (x : X) → is_named n x ≡ true → is_named m x ≡ false = λ x e. subst (λ k. same_name k m ≡ false) (sym (same_name-is (key x) n e)) (before_differs n m g) in
      filter-append (is_named m) run others ∙ ap (λ xs. xs ++ filter (is_named m) others) (filter_none (is_named m) (is_named n) differs run h)

  pub groups_of_run : (x : X) (run others : List X) → list_all (is_named (key x)) (x ∷ run) ≡ true → list_all (is_after (key x)) others ≡ true → grouped ((x ∷ run) ++ others) ≡ (x ∷ run) ∷ grouped others
  groups_of_run x run others h g =
      let n = key x in
      let all = (x ∷ run) ++ others in
      let later : list_all (comes_before n) (in_order (map key others)) ≡ true = all_in_order (comes_before n) (map key others) (list_all-map (comes_before n) key others ∙ g) in
      ap (map (λ m. filter (is_named m) all)) (in_order_run n x run others h g)
      ∙ ap (λ group. group ∷ map (λ m. filter (is_named m) all) (in_order (map key others))) (named_in_run n (x ∷ run) others h g)
      ∙ ap (λ groups. (x ∷ run) ∷ groups) (map_agree (λ m. filter (is_named m) all) (λ m. filter (is_named m) others) (comes_before n) (λ m e. named_later n m (x ∷ run) others h e) (in_order (map key others)) later)

  -- ---- the first run of things in order

  -- how many at the front have the name of the first
  abbrev pub run_size : List X → ℕ
  run_size [] = 0
  run_size (x ∷ xs) = prefix_len (is_named (key x)) (x ∷ xs)

  first_is_named : (x : X) (xs : List X) → run_size (x ∷ xs) ≡ suc (prefix_len (is_named (key x)) xs)
  first_is_named x xs =
      ap (λ t. cond t (1 + prefix_len (is_named (key x)) xs) 0) (same_name-itself (key x)) ∙ omega arith

  groups_from_first : (xs : List X) → rises (map key xs) ≡ true → 0 < length xs → grouped xs ≡ take (run_size xs) xs ∷ grouped (drop (run_size xs) xs)
  groups_from_first [] h g = absurd (omega arith)
  groups_from_first (x ∷ xs) h g =
      let n = key x in
      let k = prefix_len (is_named n) xs in
      let up = and_parts (list_all (not_before n) (map key xs)) (rises (map key xs)) h in
      let run : list_all (is_named n) (x ∷ take k xs) ≡ true = and_from (is_named n x) (list_all (is_named n) (take k xs)) (same_name-itself n) (front_named n xs) in
      let whole : grouped (x ∷ xs) ≡ grouped ((x ∷ take k xs) ++ drop k xs) = ap (λ ys. grouped (x ∷ ys)) (sym (take-append-drop k xs)) in
      let split : grouped (x ∷ xs) ≡ take (suc k) (x ∷ xs) ∷ grouped (drop (suc k) (x ∷ xs)) = whole ∙ groups_of_run x (take k xs) (drop k xs) run (behind_after n xs up.1 up.0) in
      subst (λ j. grouped (x ∷ xs) ≡ take j (x ∷ xs) ∷ grouped (drop j (x ∷ xs))) (sym (first_is_named x xs)) split

  pub run_size_in : (xs : List X) → 0 < length xs → (0 < run_size xs) × (run_size xs ≤ length xs)
  run_size_in [] h = absurd (omega arith)
  run_size_in (x ∷ xs) h = (omega (arith, first_is_named x xs), omega (arith, first_is_named x xs, prefix_len-le-length (is_named (key x)) xs))

  -- the groups from a place on: the run there, and those behind it
  pub groups_from : (xs : List X) (start : ℕ) → rises (map key xs) ≡ true → start < length xs → grouped (drop start xs) ≡ take (run_size (drop start xs)) (drop start xs) ∷ grouped (drop (start + run_size (drop start xs)) xs)
  groups_from xs start h g =
      let some : 0 < length (drop start xs) = omega (arith, length-drop start xs) in
      groups_from_first (drop start xs) (rises_behind start xs h) some
      ∙ ap (λ ys. take (run_size (drop start xs)) (drop start xs) ∷ grouped ys) (drop-drop (run_size (drop start xs)) start xs)

  -- ---- lists with the same things of each name

  pub has_named : (q : List ℕ) (xs : List X) → has q (map key xs) ≡ has_some (filter (is_named q) xs)
  has_named q xs = any_map_of (λ m. same_name m q) key xs ∙ any_by_filter (is_named q) xs

  abbrev pub SameNamed : List X → List X → Type 0
  SameNamed xs ys = (n : List ℕ) → filter (is_named n) xs ≡ filter (is_named n) ys

  pub same_groups : (xs ys : List X) → SameNamed xs ys → grouped xs ≡ grouped ys
  same_groups xs ys same =
      let names : in_order (map key xs) ≡ in_order (map key ys) = ascending_unique (in_order (map key xs)) (in_order (map key ys)) (in_order_ascends (map key xs)) (in_order_ascends (map key ys)) (λ q. has_in_order q (map key xs) ∙ has_named q xs ∙ ap has_some (same q) ∙ sym (has_named q ys) ∙ sym (has_in_order q (map key ys))) in
      λ i. map (λ n. same n i) (names i)

  -- ---- which names there are

  pub group_is_named : (n : List ℕ) (xs : List X) → list_all (is_named n) (filter (is_named n) xs) ≡ true
  group_is_named n [] = refl
  group_is_named n (x ∷ xs) = by (is_named n x) refl (group_is_named n xs)
    where
      by : (t : Bool) → is_named n x ≡ t → list_all (is_named n) (filter (is_named n) xs) ≡ true → list_all (is_named n) (cond t (x ∷ filter (is_named n) xs) (filter (is_named n) xs)) ≡ true
      by true e rest = and_from (is_named n x) (list_all (is_named n) (filter (is_named n) xs)) e rest
      by false e rest = rest

  some_agree : (xs : List X) (ns : List (List ℕ)) → list_all (λ n. has n (map key xs)) ns ≡ true → list_all (λ n. has_some (filter (is_named n) xs)) ns ≡ true
  some_agree xs [] h = refl
  some_agree xs (n ∷ ns) h =
      let parts = and_parts (has n (map key xs)) (list_all (λ n. has n (map key xs)) ns) h in
      and_from (has_some (filter (is_named n) xs)) (list_all (λ n. has_some (filter (is_named n) xs)) ns) (sym (has_named n xs) ∙ parts.0) (some_agree xs ns parts.1)

  -- each group has something
  pub all_some : (xs : List X) → list_all (λ n. has_some (filter (is_named n) xs)) (in_order (map key xs)) ≡ true
  all_some xs =
      all_in_order (λ n. has_some (filter (is_named n) xs)) (map key xs) (some_agree xs (map key xs) (all_have (map key xs) (map key xs) (λ q e. e)))
