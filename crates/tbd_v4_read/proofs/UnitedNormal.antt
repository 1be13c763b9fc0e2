-- Symbols that are united are in normal form.
use Rattle.std.proofs.Common.{◌≡◌, ℕ, ◌==◌, Bool, true, false, cond, ◌&&◌, List, [], ◌∷◌, map, filter, refl, sym, ap, ◌∙◌}
use Rattle.std.specs.List.{list_all}
use Rattle.std.proofs.lemmas.Bool.{and_parts, and_from, or_right, eqb-true, false≢true}
use Rattle.std.proofs.lemmas.List.Folds.{list_all-map}
use Rattle.ifs_interface.specs.Triple.{same_name}
use Rattle.ifs_interface.specs.Interface.{comes_before, ascends, is_proper_name}
use Rattle.ifs_interface.specs.Extracted.{in_order}
use Rattle.ifs_interface.proofs.Names.{same_name-is}
use Rattle.ifs_interface.proofs.InOrder.{all_in_order, in_order_ascends, has, has_itself}
use Rattle.ifs_interface.proofs.Groups.{group_is_named}
use Rattle.ifs_interface.proofs.Lists.{any_map_of, any_by_filter, has_some, map_map, map_agree, map_itself}
use Rattle.ifs_interface.proofs.Repeats.{list_all-weaker}
use Rattle.tbd_core.specs.declared.symbol.TbdSymbol.{TbdSymbol}
use Rattle.tbd_core.specs.declared.dylib.Named.{Named}
use Rattle.tbd_core.specs.Keys.{section_rank, kind_rank, part_rank, key_of}
use Rattle.tbd_core.specs.Groups.{of_key, grouped}
use Rattle.tbd_core.specs.Union.{union, united_symbol, united}
use Rattle.tbd_core.specs.Normal.{rise, is_symbol, are_symbols, is_named, are_names, are_places}
use Rattle.tbd_v4_read.specs.Library.{named, names_once}
use Rattle.tbd_v4_read.proofs.Ascend.{fit, union_fits}

-- a proper name, said for one target or more of n
abbrev pub fits : ℕ → TbdSymbol → Bool
fits n s = is_proper_name s.name && fit n s.targets

abbrev keys : List TbdSymbol → List (List ℕ)
keys xs = map key_of xs

-- the symbol of a key
abbrev of : List TbdSymbol → List ℕ → TbdSymbol
of xs k = united_symbol (of_key key_of k xs)

united_is : (xs : List TbdSymbol) → united xs ≡ map (of xs) (in_order (keys xs))
unfolding grouped
united_is xs = map_map united_symbol (λ k. of_key key_of k xs) (in_order (keys xs))

-- ---- each key has symbols

have_themselves : (ms ns : List (List ℕ)) → ((q : List ℕ) → has q ns ≡ true → has q ms ≡ true) → list_all (λ n. has n ms) ns ≡ true
have_themselves ms [] h = refl
have_themselves ms (n ∷ ns) h =
    and_from (has n ms) (list_all (λ n. has n ms) ns) (h n (has_itself n ns)) (have_themselves ms ns (λ q e. h q (or_right (same_name n q) (has q ns) e)))

-- each key in order is one of the keys
keys_there : (xs : List TbdSymbol) → list_all (λ k. has k (keys xs)) (in_order (keys xs)) ≡ true
keys_there xs = all_in_order (λ k. has k (keys xs)) (keys xs) (have_themselves (keys xs) (keys xs) (λ q e. e))

some_of : (xs : List TbdSymbol) (k : List ℕ) → has k (keys xs) ≡ true → has_some (of_key key_of k xs) ≡ true
some_of xs k h = sym (any_by_filter (λ x. same_name (key_of x) k) xs) ∙ sym (any_map_of (λ m. same_name m k) key_of xs) ∙ h

-- ---- the symbol of a key

key_of_group : (k : List ℕ) (group : List TbdSymbol) → has_some group ≡ true → list_all (λ y. same_name (key_of y) k) group ≡ true → key_of (united_symbol group) ≡ k
key_of_group k [] some h = absurd (false≢true some)
key_of_group k (s ∷ group) some h = same_name-is (key_of s) k (and_parts (same_name (key_of s) k) (list_all (λ y. same_name (key_of y) k) group) h).0

key_is : (xs : List TbdSymbol) (k : List ℕ) → has k (keys xs) ≡ true → key_of (of xs k) ≡ k
key_is xs k h = key_of_group k (of_key key_of k xs) (some_of xs k h) (group_is_named key_of k xs)

group_fits : (n : ℕ) (group : List TbdSymbol) → has_some group ≡ true → list_all (fits n) group ≡ true → is_symbol n (united_symbol group) ≡ true
unfolding is_symbol
group_fits n [] some h = absurd (false≢true some)
group_fits n (s ∷ group) some h =
    let parts = and_parts (fits n s) (list_all (fits n) group) h in
    let here = and_parts (is_proper_name s.name) (fit n s.targets) parts.0 in
    let places = list_all-weaker (fits n) (λ s. fit n s.targets) (λ s e. (and_parts (is_proper_name s.name) (fit n s.targets) e).1) (s ∷ group) h in
    and_from (is_proper_name s.name) (are_places n (union (s ∷ group))) here.0 (union_fits n s group places)

-- what all pass those pass that a test lets through
all_filtered : {X : Type 0} (p q : X → Bool) (xs : List X) → list_all p xs ≡ true → list_all p (filter q xs) ≡ true
all_filtered p q [] h = refl
all_filtered p q (x ∷ xs) h =
    let parts = and_parts (p x) (list_all p xs) h in
    let rest = all_filtered p q xs parts.1 in
    elim (q x) as (λ b. list_all p (cond b (x ∷ filter q xs) (filter q xs)) ≡ true) [ true ↦ and_from (p x) (list_all p (filter q xs)) parts.0 rest | false ↦ rest ]

united_fit : (n : ℕ) (xs : List TbdSymbol) → list_all (fits n) xs ≡ true → list_all (is_symbol n) (united xs) ≡ true
united_fit n xs h =
    ap (list_all (is_symbol n)) (united_is xs) ∙ list_all-map (is_symbol n) (of xs) (in_order (keys xs))
    ∙ list_all-weaker (λ k. has k (keys xs)) (λ k. is_symbol n (of xs k)) (λ k e. group_fits n (of_key key_of k xs) (some_of xs k e) (all_filtered (fits n) (λ x. same_name (key_of x) k) xs h)) (in_order (keys xs)) (keys_there xs)

-- ---- the order

rises : (ks : List (List ℕ)) → ascends ks ≡ true → rise ks ≡ true
rises [] h = refl
rises (k ∷ []) h = refl
rises (k ∷ j ∷ ks) h =
    let parts = and_parts (list_all (comes_before k) (j ∷ ks)) (ascends (j ∷ ks)) h in
    let first = and_parts (comes_before k j) (list_all (comes_before k) ks) parts.0 in
    and_from (comes_before k j) (rise (j ∷ ks)) first.0 (rises (j ∷ ks) parts.1)

united_keys : (xs : List TbdSymbol) → map key_of (united xs) ≡ in_order (keys xs)
united_keys xs =
    ap (map key_of) (united_is xs) ∙ map_map key_of (of xs) (in_order (keys xs))
    ∙ map_agree (λ k. key_of (of xs k)) (λ k. k) (λ k. has k (keys xs)) (key_is xs) (in_order (keys xs)) (keys_there xs) ∙ map_itself (λ k. k) (λ k. refl) (in_order (keys xs))

united_rise : (xs : List TbdSymbol) → rise (map key_of (united xs)) ≡ true
united_rise xs = ap rise (united_keys xs) ∙ rises (in_order (keys xs)) (in_order_ascends (keys xs))

pub symbols_normal : (n : ℕ) (xs : List TbdSymbol) → list_all (fits n) xs ≡ true → are_symbols n (united xs) ≡ true
unfolding are_symbols
symbols_normal n xs h = and_from (list_all (is_symbol n) (united xs)) (rise (map key_of (united xs))) (united_fit n xs h) (united_rise xs)

-- ---- names of a list without kinds: exported global symbols of no known part

abbrev pub is_plain : TbdSymbol → Bool
is_plain s = section_rank s.section == 0 && kind_rank s.kind == 0 && part_rank s.segment == 0

plain_key : (s : TbdSymbol) → is_plain s ≡ true → key_of s ≡ 0 ∷ 0 ∷ 0 ∷ s.name
plain_key s h =
    let outer = and_parts (section_rank s.section == 0 && kind_rank s.kind == 0) (part_rank s.segment == 0) h in
    let inner = and_parts (section_rank s.section == 0) (kind_rank s.kind == 0) outer.0 in
    let a = eqb-true (section_rank s.section) 0 inner.0 in
    let b = eqb-true (kind_rank s.kind) 0 inner.1 in
    let c = eqb-true (part_rank s.segment) 0 outer.1 in
    λ i. a i ∷ b i ∷ c i ∷ s.name

plain_first : (s t : TbdSymbol) → is_plain s ≡ true → is_plain t ≡ true → comes_before (key_of s) (key_of t) ≡ comes_before s.name t.name
plain_first s t h g = λ i. comes_before (plain_key s h i) (plain_key t g i)

names_rise : (xs : List TbdSymbol) → list_all is_plain xs ≡ true → rise (map key_of xs) ≡ true → rise (map (λ x. x.name) xs) ≡ true
names_rise [] h up = refl
names_rise (s ∷ []) h up = refl
names_rise (s ∷ t ∷ xs) h up =
    let here = and_parts (is_plain s) (list_all is_plain (t ∷ xs)) h in
    let next = and_parts (is_plain t) (list_all is_plain xs) here.1 in
    let parts = and_parts (comes_before (key_of s) (key_of t)) (rise (map key_of (t ∷ xs))) up in
    and_from (comes_before s.name t.name) (rise (map (λ x. x.name) (t ∷ xs))) (sym (plain_first s t here.0 next.0) ∙ parts.0) (names_rise (t ∷ xs) here.1 parts.1)

group_plain : (group : List TbdSymbol) → has_some group ≡ true → list_all is_plain group ≡ true → is_plain (united_symbol group) ≡ true
group_plain [] some h = absurd (false≢true some)
group_plain (s ∷ group) some h = (and_parts (is_plain s) (list_all is_plain group) h).0

united_plain : (xs : List TbdSymbol) → list_all is_plain xs ≡ true → list_all is_plain (united xs) ≡ true
united_plain xs h =
    ap (list_all is_plain) (united_is xs) ∙ list_all-map is_plain (of xs) (in_order (keys xs))
    ∙ list_all-weaker (λ k. has k (keys xs)) (λ k. is_plain (of xs k)) (λ k e. group_plain (of_key key_of k xs) (some_of xs k e) (all_filtered is_plain (λ x. same_name (key_of x) k) xs h)) (in_order (keys xs)) (keys_there xs)

same_tests : (n : ℕ) (xs : List TbdSymbol) → list_all (is_symbol n) xs ≡ true → list_all (is_named n) (map named xs) ≡ true
unfolding is_symbol is_named
same_tests n xs h = list_all-map (is_named n) named xs ∙ h

pub names_normal : (n : ℕ) (xs : List TbdSymbol) → list_all (fits n) xs ≡ true → list_all is_plain xs ≡ true → are_names n (names_once xs) ≡ true
unfolding are_names names_once
names_normal n xs h plain =
    let up = names_rise (united xs) (united_plain xs plain) (united_rise xs) in
    and_from (list_all (is_named n) (map named (united xs))) (rise (map (λ x. x.name) (map named (united xs)))) (same_tests n (united xs) (united_fit n xs h)) (ap rise (map_map (λ (x : Named). x.name) named (united xs)) ∙ up)
