-- What a library says is in normal form, where nothing is wrong with it.
use Rattle.std.proofs.Common.{◌≡◌, ℕ, zero, suc, ◌+◌, ◌-◌, ◌<◌, ◌≤◌, Bool, true, false, not, ◌&&◌, List, [], ◌∷◌, ◌++◌, length, nat_lt, Option, Some, None, refl, sym, ap, ◌∙◌, arith}
use Rattle.std.specs.Prelude.{is_some, option_map, option_and_then, codes}
use Rattle.std.specs.List.{list_all, list_any, filter_map, cons_option, flat_map, range_with_len}
use Rattle.std.specs.Option.{option_or}
use Rattle.std.proofs.lemmas.Bool.{and_parts, and_from, false≢true}
use Rattle.std.proofs.lemmas.Bool.Decides.{nat_tests}
use Rattle.ifs_bytes.specs.Places.{places}
use Rattle.ifs_interface.specs.Interface.{is_proper_name}
use Rattle.ifs_interface.specs.Triple.{same_name}
use Rattle.yaml_nodes.specs.declared.node.Node.{Node}
use Rattle.yaml_nodes.specs.declared.node.Entry.{Entry}
use Rattle.yaml_nodes.specs.Nodes.{text_of}
use Rattle.yaml_maps.specs.Maps.{first_of, value_at}
use Rattle.tbd_core.specs.declared.symbol.Section.{Section}
use Rattle.tbd_core.specs.declared.symbol.Section.TheVariants.{Exported, Reexported, Undefined}
use Rattle.tbd_core.specs.declared.symbol.SymbolKind.{SymbolKind}
use Rattle.tbd_core.specs.declared.symbol.SymbolKind.TheVariants as kinds
use Rattle.tbd_core.specs.declared.dylib.TbdTarget.{TbdTarget}
use Rattle.tbd_core.specs.declared.dylib.DylibParts.{DylibParts}
use Rattle.tbd_core.specs.declared.dylib.DylibField.TheVariants as field
use Rattle.tbd_core.specs.Normal.{is_some_list, distinct, are_targets, are_names, are_symbols, broken_list, first_broken, unless_normal}
use Rattle.tbd_v4_read.specs.declared.keys.GroupKind.{GroupKind}
use Rattle.tbd_v4_read.specs.declared.keys.GroupKind.TheVariants.{Umbrella, Clients, Libraries, Symbols}
use Rattle.tbd_v4_read.specs.Keys.{library_keys_fault, group_kind, items_at, map_entries}
use Rattle.tbd_v4_read.specs.Values.{name_in, all_names, some_names, stands_again, stands_in, all_differ, different_names}
use Rattle.tbd_v4_read.specs.Faults.{group_fault, value_fault, version_fault, unknown_in_group, unknown_at, unknown_target, values_fault, library_fault}
use Rattle.tbd_v4_read.specs.Library.{target, target_in, targets_of, places_of, symbol, symbol_in, listed, umbrella_of, objc_symbols, symbols_of, names_of_group, names_in_group, names_at, flags_of, umbrellas_of, clients_of, reexported_of, sectioned, names_once, install_name, parts_with}
use Rattle.tbd_v4_read.proofs.Ascend.{fit}
use Rattle.tbd_v4_read.proofs.UnitedNormal.{fits, is_plain, symbols_normal, names_normal}
use Rattle.tbd_v4_read.proofs.Gathered.{passes, all_given, both_pass, one_passes, good_name, symbol_fits, places_fit, stands_is, is_there, text_is, option_or_none}
use Rattle.tbd_v4_read.proofs.Faultless.{some_targets, groups_right, groups_known, library_targets, library_name}

-- ---- the names of a group

module _ (n : ℕ) (section : Section) (targets : List ℕ) (h : fit n targets ≡ true) (group : List Entry) where
  listed_fit : (kind : SymbolKind) (key : List ℕ) → list_all (fits n) (listed section kind targets key group) ≡ true
  unfolding listed
  listed_fit kind key = all_given (fits n) (symbol_in section kind targets) (symbol_fits n section kind targets h) (items_at key group)

  umbrella_fits : list_all (fits n) (umbrella_of section targets group) ≡ true
  unfolding umbrella_of
  umbrella_fits = one_passes (fits n) (option_and_then (symbol_in section kinds.Global targets) (value_at (codes "umbrella") group)) (by (value_at (codes "umbrella") group))
    where
      by : (v : Option Node) → passes (fits n) (option_and_then (symbol_in section kinds.Global targets) v) ≡ true
      by None = refl
      by (Some v) = symbol_fits n section kinds.Global targets h v

  objc_fit : list_all (fits n) (objc_symbols section targets group) ≡ true
  unfolding objc_symbols
  objc_fit =
      let classes = listed section kinds.ObjcClass targets (codes "objc-classes") group in
      let types = listed section kinds.ObjcEhType targets (codes "objc-eh-types") group in
      let variables = listed section kinds.ObjcIvar targets (codes "objc-ivars") group in
      let first = both_pass (fits n) classes types (listed_fit kinds.ObjcClass (codes "objc-classes")) (listed_fit kinds.ObjcEhType (codes "objc-eh-types")) in
      both_pass (fits n) (classes ++ types) variables first (listed_fit kinds.ObjcIvar (codes "objc-ivars"))

  symbols_fit : list_all (fits n) (symbols_of section targets group) ≡ true
  unfolding symbols_of
  symbols_fit =
      let global = listed section kinds.Global targets (codes "symbols") group in
      let objc = objc_symbols section targets group in
      let weak = listed section kinds.Weak targets (codes "weak-symbols") group in
      let local = listed section kinds.ThreadLocal targets (codes "thread-local-symbols") group in
      let first = both_pass (fits n) global objc (listed_fit kinds.Global (codes "symbols")) objc_fit in
      let second = both_pass (fits n) (global ++ objc) weak first (listed_fit kinds.Weak (codes "weak-symbols")) in
      both_pass (fits n) (global ++ objc ++ weak) local second (listed_fit kinds.ThreadLocal (codes "thread-local-symbols"))

  group_fits : (kind : GroupKind) → list_all (fits n) (names_of_group kind section targets group) ≡ true
  group_fits Umbrella = umbrella_fits
  group_fits Clients = listed_fit kinds.Global (codes "clients")
  group_fits Libraries = listed_fit kinds.Global (codes "libraries")
  group_fits Symbols = symbols_fit

-- lists without kinds
abbrev is_list : GroupKind → Bool
is_list Umbrella = true
is_list Clients = true
is_list Libraries = true
is_list Symbols = false

plain_by : (targets : List ℕ) (name : Option (List ℕ)) → passes is_plain (option_map (symbol Exported kinds.Global targets) name) ≡ true
plain_by targets None = refl
plain_by targets (Some name) = refl

plain_symbol : (targets : List ℕ) (item : Node) → passes is_plain (symbol_in Exported kinds.Global targets item) ≡ true
unfolding symbol_in
plain_symbol targets item = plain_by targets (name_in item)

plain_listed : (targets key : List ℕ) (group : List Entry) → list_all is_plain (listed Exported kinds.Global targets key group) ≡ true
unfolding listed
plain_listed targets key group = all_given is_plain (symbol_in Exported kinds.Global targets) (plain_symbol targets) (items_at key group)

plain_umbrella : (targets : List ℕ) (group : List Entry) → list_all is_plain (umbrella_of Exported targets group) ≡ true
unfolding umbrella_of
plain_umbrella targets group = one_passes is_plain (option_and_then (symbol_in Exported kinds.Global targets) (value_at (codes "umbrella") group)) (by (value_at (codes "umbrella") group))
  where
    by : (v : Option Node) → passes is_plain (option_and_then (symbol_in Exported kinds.Global targets) v) ≡ true
    by None = refl
    by (Some v) = plain_symbol targets v

plain_group : (kind : GroupKind) → is_list kind ≡ true → (targets : List ℕ) (group : List Entry) → list_all is_plain (names_of_group kind Exported targets group) ≡ true
plain_group Umbrella h targets group = plain_umbrella targets group
plain_group Clients h targets group = plain_listed targets (codes "clients") group
plain_group Libraries h targets group = plain_listed targets (codes "libraries") group
plain_group Symbols h targets group = absurd (false≢true h)

all_flat : {X Y : Type 0} (p : Y → Bool) (f : X → List Y) → ((x : X) → list_all p (f x) ≡ true) → (xs : List X) → list_all p (flat_map f xs) ≡ true
all_flat p f h [] = refl
all_flat p f h (x ∷ xs) = both_pass p (f x) (flat_map f xs) (h x) (all_flat p f h xs)

names_plain : (kind : GroupKind) → is_list kind ≡ true → (key : List ℕ) (targets : List TbdTarget) (entries : List Entry) → list_all is_plain (names_at kind Exported key targets entries) ≡ true
unfolding names_at names_in_group
names_plain kind h key targets entries =
    all_flat is_plain (names_in_group kind Exported targets) (λ item. plain_group kind h (places_of targets (map_entries item)) (map_entries item)) (items_at key entries)

-- ---- the targets of a library

named_front : (o : Option (List ℕ)) (ts : List TbdTarget) → is_some o ≡ true → is_some_list (cons_option (option_map target o) ts) ≡ true
named_front None ts h = absurd (false≢true h)
named_front (Some name) ts h = refl

targets_some : (items : List Node) → some_names items ≡ true → is_some_list (filter_map target_in items) ≡ true
unfolding all_names
targets_some [] h = absurd (false≢true h)
targets_some (item ∷ items) h =
    named_front (name_in item) (filter_map target_in items) (and_parts (is_some (name_in item)) (list_all (λ item. is_some (name_in item)) items) h).0

proper_target : (o : Option (List ℕ)) → passes is_proper_name o ≡ true → passes (λ (t : TbdTarget). is_proper_name t.name) (option_map target o) ≡ true
proper_target None h = refl
proper_target (Some name) h = h

targets_proper : (items : List Node) → list_all (λ (t : TbdTarget). is_proper_name t.name) (filter_map target_in items) ≡ true
targets_proper items = all_given (λ (t : TbdTarget). is_proper_name t.name) target_in (λ item. proper_target (name_in item) (good_name item)) items

targets_distinct : (items : List Node) → all_names items ≡ true → all_differ items ≡ true → distinct (filter_map target_in items) ≡ true
unfolding all_names
targets_distinct [] all differ = refl
targets_distinct (item ∷ items) all differ =
    let names = and_parts (is_some (name_in item)) (list_all (λ item. is_some (name_in item)) items) all in
    let parts = and_parts (not (stands_again (text_of item) items)) (all_differ items) differ in
    let here = is_there (name_in item) names.0 in
    let again : not (stands_in here.0 items) ≡ true = sym (ap (λ o. not (stands_again o items)) (text_is item here.0 here.1)) ∙ parts.0 in
    let once = ap not (stands_is here.0 items names.1) ∙ again in
    ap (λ o. distinct (cons_option (option_map target o) (filter_map target_in items))) here.1
    ∙ and_from (not (list_any (λ (u : TbdTarget). same_name u.name here.0) (filter_map target_in items))) (distinct (filter_map target_in items)) once (targets_distinct items names.1 parts.1)

targets_normal : (items : List Node) → different_names items ≡ true → are_targets (filter_map target_in items) ≡ true
unfolding are_targets
targets_normal items h =
    let parts = and_parts (some_names items) (all_differ items) h in
    let names = and_parts (is_some_list items) (all_names items) parts.0 in
    let targets = filter_map target_in items in
    let first = and_from (is_some_list targets) (list_all (λ (t : TbdTarget). is_proper_name t.name) targets) (targets_some items parts.0) (targets_proper items) in
    and_from (is_some_list targets && list_all (λ (t : TbdTarget). is_proper_name t.name) targets) (distinct targets) first (targets_distinct items names.1 parts.1)

-- ---- all targets

below_all : (k i n : ℕ) → i + k ≤ n → list_all (λ p. nat_lt p n) (range_with_len i k) ≡ true
below_all zero i n h = refl
below_all (suc k) i n h =
    let lt : i < n = omega arith in
    let next : i + 1 + k ≤ n = omega arith in
    let test : nat_lt i n ≡ true = grind (arith, nat_tests) in
    and_from (nat_lt i n) (list_all (λ p. nat_lt p n) (range_with_len (i + 1) k)) test (below_all k (i + 1) n next)

all_fit : (targets : List TbdTarget) → is_some_list targets ≡ true → fit (length targets) (places 0 (length targets)) ≡ true
all_fit [] h = absurd (false≢true h)
all_fit (t ∷ ts) h =
    let n = length (t ∷ ts) in
    let size : n - 0 ≡ suc (length ts) = omega arith in
    let within : 0 + suc (length ts) ≤ n = omega arith in
    ap (λ k. fit n (range_with_len 0 k)) size
    ∙ and_from true (list_all (λ p. nat_lt p n) (range_with_len 0 (suc (length ts)))) refl (below_all (suc (length ts)) 0 n within)

-- ---- the groups of a key

module _ (entries : List Entry) (right : first_of value_fault entries ≡ None) (targets_right : different_names (items_at (codes "targets") entries) ≡ true) (all_known : first_of (unknown_at (items_at (codes "targets") entries)) entries ≡ None) where
  abbrev libs : List Node
  libs = items_at (codes "targets") entries

  abbrev targets : List TbdTarget
  targets = filter_map target_in libs

  libs_named : all_names libs ≡ true
  libs_named =
      (and_parts (is_some_list libs) (all_names libs) (and_parts (some_names libs) (all_differ libs) targets_right).0).1

  group_places : (key : List ℕ) (kind : GroupKind) (item : Node) → group_fault key kind item ≡ None → unknown_in_group libs item ≡ None → fit (length targets) (places_of targets (map_entries item)) ≡ true
  unfolding places_of unknown_in_group
  group_places key kind item h known =
      places_fit libs (items_at (codes "targets") (map_entries item)) libs_named (some_targets key kind item h) known

  gathered : (key : List ℕ) (kind : GroupKind) (section : Section) (items : List Node) → first_of (group_fault key kind) items ≡ None → first_of (unknown_in_group libs) items ≡ None → list_all (fits (length targets)) (flat_map (names_in_group kind section targets) items) ≡ true
  unfolding names_in_group
  gathered key kind section [] h known = refl
  gathered key kind section (item ∷ items) h known =
      let one = option_or_none (group_fault key kind item) (first_of (group_fault key kind) items) h in
      let other = option_or_none (unknown_in_group libs item) (first_of (unknown_in_group libs) items) known in
      let here = group_fits (length targets) section (places_of targets (map_entries item)) (group_places key kind item one.0 other.0) (map_entries item) kind in
      both_pass (fits (length targets)) (names_in_group kind section targets item) (flat_map (names_in_group kind section targets) items) here (gathered key kind section items one.1 other.1)

  names_fit : (key : List ℕ) (kind : GroupKind) (section : Section) → group_kind key ≡ Some kind → list_all (fits (length targets)) (names_at kind section key targets entries) ≡ true
  unfolding names_at
  names_fit key kind section of_kind =
      gathered key kind section (items_at key entries) (groups_right key kind entries of_kind right) (groups_known libs key kind entries of_kind all_known)

  -- ---- the parts

  abbrev count : ℕ
  count = length targets

  targets_there : is_some_list targets ≡ true
  targets_there = targets_some libs (and_parts (some_names libs) (all_differ libs) targets_right).0

  flags_normal : are_names count (flags_of targets entries) ≡ true
  unfolding flags_of
  flags_normal =
      names_normal count (listed Exported kinds.Global (places 0 count) (codes "flags") entries) (listed_fit count Exported (places 0 count) (all_fit targets targets_there) entries kinds.Global (codes "flags")) (plain_listed (places 0 count) (codes "flags") entries)

  lists_normal : (key : List ℕ) (kind : GroupKind) → is_list kind ≡ true → group_kind key ≡ Some kind → are_names count (names_once (names_at kind Exported key targets entries)) ≡ true
  lists_normal key kind h of_kind =
      names_normal count (names_at kind Exported key targets entries) (names_fit key kind Exported of_kind) (names_plain kind h key targets entries)

  umbrellas_normal : are_names count (umbrellas_of targets entries) ≡ true
  unfolding umbrellas_of
  umbrellas_normal = lists_normal (codes "parent-umbrella") Umbrella refl refl

  clients_normal : are_names count (clients_of targets entries) ≡ true
  unfolding clients_of
  clients_normal = lists_normal (codes "allowable-clients") Clients refl refl

  reexported_normal : are_names count (reexported_of targets entries) ≡ true
  unfolding reexported_of
  reexported_normal = lists_normal (codes "reexported-libraries") Libraries refl refl

  sectioned_normal : are_symbols count (sectioned targets entries) ≡ true
  unfolding sectioned
  sectioned_normal =
      let exported = names_at Symbols Exported (codes "exports") targets entries in
      let reexported = names_at Symbols Reexported (codes "reexports") targets entries in
      let wanted = names_at Symbols Undefined (codes "undefineds") targets entries in
      let first = both_pass (fits count) exported reexported (names_fit (codes "exports") Symbols Exported refl) (names_fit (codes "reexports") Symbols Reexported refl) in
      symbols_normal count (exported ++ reexported ++ wanted) (both_pass (fits count) (exported ++ reexported) wanted first (names_fit (codes "undefineds") Symbols Undefined refl))

  lists_unbroken : broken_list (parts_with targets entries) ≡ None
  unfolding broken_list parts_with are_names
  lists_unbroken =
      λ i. option_or (unless_normal (umbrellas_normal i) field.Umbrellas)
      (option_or (unless_normal (clients_normal i) field.Clients)
      (option_or (unless_normal (reexported_normal i) field.Reexported)
      (option_or None
      (unless_normal (sectioned_normal i) field.Symbols))))

  unbroken : is_proper_name (install_name entries) ≡ true → first_broken (parts_with targets entries) ≡ None
  unfolding first_broken parts_with
  unbroken proper =
      (λ i. option_or (unless_normal (targets_normal libs targets_right i) field.Targets)
      (option_or (unless_normal (flags_normal i) field.Flags)
      (option_or (unless_normal (proper i) field.InstallName)
      (broken_list (parts_with targets entries)))))
      ∙ lists_unbroken

-- the parts of a library with which nothing is wrong
pub normal_parts : (entries : List Entry) (targets : List TbdTarget) (parts : DylibParts) → library_fault entries ≡ None → targets ≡ targets_of entries → parts ≡ parts_with targets entries → first_broken parts ≡ None
unfolding library_fault values_fault unknown_target targets_of
normal_parts entries targets parts none targets_are parts_are =
    let keys = option_or_none (library_keys_fault entries) (option_or (version_fault entries) (values_fault entries)) none in
    let behind = option_or_none (version_fault entries) (values_fault entries) keys.1 in
    let values = option_or_none (first_of value_fault entries) (unknown_target entries) behind.1 in
    let right = library_targets entries keys.0 values.0 in
    ap first_broken (parts_are ∙ ap (λ ts. parts_with ts entries) targets_are)
    ∙ unbroken entries values.0 right values.1 (library_name entries keys.0 values.0)
