-- What is gathered of groups with which nothing is wrong fits: proper names, said for one target or more of the library's.
use Rattle.std.proofs.Common.{◌≡◌, ℕ, ◌+◌, ◌<◌, Bool, true, false, cond, not, ◌||◌, List, [], ◌∷◌, ◌++◌, length, nat_lt, Option, Some, None, refl, sym, ap, ◌∙◌, arith}
use Rattle.std.specs.Prelude.{is_some, position, unwrap_or, option_map, option_and_then}
use Rattle.std.specs.List.{position_or_len, list_all, list_any, filter_map, cons_option}
use Rattle.std.specs.Option.{option_or, option_to_list}
use Rattle.std.proofs.lemmas.Bool.{and_parts, and_from, false≢true}
use Rattle.std.proofs.lemmas.Option.{none-some}
use Rattle.std.proofs.lemmas.Bool.Decides.{nat_tests}
use Rattle.std.proofs.lemmas.List.Folds.{list_all-append}
use Rattle.std.proofs.lemmas.List.Quantifiers.{position-Some}
use Rattle.ifs_interface.specs.Triple.{same_name}
use Rattle.ifs_interface.specs.Interface.{is_proper_name}
use Rattle.yaml_nodes.specs.declared.node.Node.{Node}
use Rattle.yaml_nodes.specs.Nodes.{text_of}
use Rattle.yaml_maps.specs.Maps.{first_of}
use Rattle.tbd_core.specs.declared.symbol.Section.{Section}
use Rattle.tbd_core.specs.declared.symbol.SymbolKind.{SymbolKind}
use Rattle.tbd_core.specs.declared.dylib.TbdTarget.{TbdTarget}
use Rattle.tbd_core.specs.declared.cause.TbdCause.TheVariants.{UnknownTarget}
use Rattle.tbd_core.specs.Places.{place_of}
use Rattle.tbd_core.specs.Normal.{is_some_list}
use Rattle.tbd_v4_read.specs.Values.{proper, name_in, all_names, some_names, is_text, stands_in}
use Rattle.tbd_v4_read.specs.Faults.{unknown_by, unknown_in}
use Rattle.tbd_v4_read.specs.Library.{target, target_in, place_in, symbol, symbol_in}
use Rattle.tbd_v4_read.proofs.Ascend.{fit}
use Rattle.tbd_v4_read.proofs.UnitedNormal.{fits}

-- ---- what a function may give

abbrev pub passes : {X : Type 0} → (X → Bool) → Option X → Bool
passes p None = true
passes p (Some x) = p x

more_pass : {X : Type 0} (p : X → Bool) (x : Option X) (xs : List X) → passes p x ≡ true → list_all p xs ≡ true → list_all p (cons_option x xs) ≡ true
more_pass p None xs h rest = rest
more_pass p (Some x) xs h rest = and_from (p x) (list_all p xs) h rest

pub all_given : {X Y : Type 0} (p : Y → Bool) (f : X → Option Y) → ((x : X) → passes p (f x) ≡ true) → (xs : List X) → list_all p (filter_map f xs) ≡ true
all_given p f h [] = refl
all_given p f h (x ∷ xs) = more_pass p (f x) (filter_map f xs) (h x) (all_given p f h xs)

pub both_pass : {X : Type 0} (p : X → Bool) (xs ys : List X) → list_all p xs ≡ true → list_all p ys ≡ true → list_all p (xs ++ ys) ≡ true
both_pass p xs ys h g = list_all-append p xs ys ∙ and_from (list_all p xs) (list_all p ys) h g

pub one_passes : {X : Type 0} (p : X → Bool) (x : Option X) → passes p x ≡ true → list_all p (option_to_list x) ≡ true
one_passes p None h = refl
one_passes p (Some x) h = and_from (p x) true h refl

-- ---- names

good_by : (b : Bool) (name : List ℕ) → is_proper_name name ≡ b → passes is_proper_name (cond b (Some name) None) ≡ true
good_by true name e = e
good_by false name e = refl

good_text : (text : Option (List ℕ)) → passes is_proper_name (option_and_then proper text) ≡ true
good_text None = refl
good_text (Some name) = good_by (is_proper_name name) name refl

-- what a node names is proper
pub good_name : (item : Node) → passes is_proper_name (name_in item) ≡ true
unfolding name_in
good_name item = good_text (text_of item)

-- the name of a node is its text
named_by : (b : Bool) (text name : List ℕ) → cond b (Some text) None ≡ Some name → text ≡ name
named_by true text name e = ap (λ o. unwrap_or o text) e
named_by false text name e = absurd (none-some name e)

text_by : (text : Option (List ℕ)) (name : List ℕ) → option_and_then proper text ≡ Some name → text ≡ Some name
text_by None name e = absurd (none-some name e)
text_by (Some text) name e = ap Some (named_by (is_proper_name text) text name e)

pub text_is : (item : Node) (name : List ℕ) → name_in item ≡ Some name → text_of item ≡ Some name
unfolding name_in
text_is item name e = text_by (text_of item) name e

-- ---- symbols

symbol_by : (n : ℕ) (section : Section) (kind : SymbolKind) (targets : List ℕ) (name : Option (List ℕ)) → fit n targets ≡ true → passes is_proper_name name ≡ true → passes (fits n) (option_map (symbol section kind targets) name) ≡ true
symbol_by n section kind targets None h g = refl
symbol_by n section kind targets (Some name) h g = and_from (is_proper_name name) (fit n targets) g h

pub symbol_fits : (n : ℕ) (section : Section) (kind : SymbolKind) (targets : List ℕ) → fit n targets ≡ true → (item : Node) → passes (fits n) (symbol_in section kind targets item) ≡ true
unfolding symbol_in
symbol_fits n section kind targets h item = symbol_by n section kind targets (name_in item) h (good_name item)

-- ---- positions

below_by : (targets : List TbdTarget) (name : List ℕ) (place : Option ℕ) → place_of targets name ≡ place → passes (λ p. nat_lt p (length targets)) place ≡ true
below_by targets name None e = refl
below_by targets name (Some p) e =
    let lt : p < length targets = (position-Some (λ (t : TbdTarget). same_name t.name name) targets p (target []) e).0 in
    grind (arith, nat_tests)

place_by : (targets : List TbdTarget) (name : Option (List ℕ)) → passes (λ p. nat_lt p (length targets)) (option_and_then (place_of targets) name) ≡ true
place_by targets None = refl
place_by targets (Some name) = below_by targets name (place_of targets name) refl

pub places_below : (targets : List TbdTarget) (items : List Node) → list_all (λ p. nat_lt p (length targets)) (filter_map (place_in targets) items) ≡ true
places_below targets items = all_given (λ p. nat_lt p (length targets)) (place_in targets) (λ item. place_by targets (name_in item)) items

-- ---- the place of what is there

ends_before : {X : Type 0} (p : X → Bool) (xs : List X) → list_any p xs ≡ true → position_or_len p xs < length xs
ends_before p [] h = absurd (false≢true h)
ends_before p (x ∷ xs) h = by (p x) refl h (ends_before p xs)
  where
    by : (b : Bool) → p x ≡ b → (b || list_any p xs) ≡ true → (list_any p xs ≡ true → position_or_len p xs < length xs) → cond (not b) (1 + position_or_len p xs) 0 < length (x ∷ xs)
    by true e g rest = omega arith
    by false e g rest = let lt : position_or_len p xs < length xs = rest g in omega arith

pub found_at : {X : Type 0} (p : X → Bool) (xs : List X) → list_any p xs ≡ true → is_some (position p xs) ≡ true
found_at p xs h =
    let lt : position_or_len p xs < length xs = ends_before p xs h in
    let test : nat_lt (position_or_len p xs) (length xs) ≡ true = grind (arith, nat_tests) in
    ap (λ b. is_some (cond b (Some (position_or_len p xs)) None)) test

-- ---- the targets of the library, and those of a group among them

pub is_there : {X : Type 0} (o : Option X) → is_some o ≡ true → (x : X) × (o ≡ Some x)
is_there None h = absurd (false≢true h)
is_there (Some x) h = (x, refl)

abbrev named : List ℕ → TbdTarget → Bool
named name t = same_name t.name name

-- names stand among the nodes that name targets exactly where they stand among the targets
pub stands_is : (name : List ℕ) (items : List Node) → all_names items ≡ true → list_any (named name) (filter_map target_in items) ≡ stands_in name items
unfolding all_names stands_in
stands_is name [] h = refl
stands_is name (item ∷ items) h =
    let parts = and_parts (is_some (name_in item)) (list_all (λ item. is_some (name_in item)) items) h in
    let here = is_there (name_in item) parts.0 in
    let rest = stands_is name items parts.1 in
    ap (λ o. list_any (named name) (cons_option (option_map target o) (filter_map target_in items))) here.1
    ∙ ap (λ b. same_name here.0 name || b) rest
    ∙ ap (λ o. is_text name o || list_any (λ item. is_text name (text_of item)) items) (sym (text_is item here.0 here.1))

pub option_or_none : {X : Type 0} (a b : Option X) → option_or a b ≡ None → (a ≡ None) × (b ≡ None)
option_or_none None b h = (refl, h)
option_or_none (Some x) b h = absurd (none-some x (sym h))

known_by : (known : Bool) (name : List ℕ) → cond known None (Some (UnknownTarget name)) ≡ None → known ≡ true
known_by true name h = refl
known_by false name h = absurd (none-some (UnknownTarget name) (sym h))

-- a name of a group that isn't unknown is one of the library's targets
known : (libs : List Node) (item : Node) (name : List ℕ) → name_in item ≡ Some name → unknown_in libs item ≡ None → stands_in name libs ≡ true
unfolding unknown_in
known libs item name e h = known_by (stands_in name libs) name (ap (unknown_by libs) (sym (text_is item name e)) ∙ h)

place_there : (libs : List Node) (item : Node) → all_names libs ≡ true → is_some (name_in item) ≡ true → unknown_in libs item ≡ None → is_some (place_in (filter_map target_in libs) item) ≡ true
place_there libs item all is h =
    let here = is_there (name_in item) is in
    ap (λ o. is_some (option_and_then (place_of (filter_map target_in libs)) o)) here.1
    ∙ found_at (named here.0) (filter_map target_in libs) (stands_is here.0 libs all ∙ known libs item here.0 here.1 h)

some_front : {X : Type 0} (o : Option X) (xs : List X) → is_some o ≡ true → is_some_list (cons_option o xs) ≡ true
some_front None xs h = absurd (false≢true h)
some_front (Some x) xs h = refl

places_some : (libs items : List Node) → all_names libs ≡ true → some_names items ≡ true → first_of (unknown_in libs) items ≡ None → is_some_list (filter_map (place_in (filter_map target_in libs)) items) ≡ true
unfolding all_names
places_some libs [] all some h = absurd (false≢true some)
places_some libs (item ∷ items) all some h =
    let names = and_parts (is_some (name_in item)) (list_all (λ item. is_some (name_in item)) items) some in
    let none = option_or_none (unknown_in libs item) (first_of (unknown_in libs) items) h in
    some_front (place_in (filter_map target_in libs) item) (filter_map (place_in (filter_map target_in libs)) items) (place_there libs item all names.0 none.0)

pub places_fit : (libs items : List Node) → all_names libs ≡ true → some_names items ≡ true → first_of (unknown_in libs) items ≡ None → fit (length (filter_map target_in libs)) (filter_map (place_in (filter_map target_in libs)) items) ≡ true
places_fit libs items all some h =
    let targets = filter_map target_in libs in
    and_from (is_some_list (filter_map (place_in targets) items)) (list_all (λ p. nat_lt p (length targets)) (filter_map (place_in targets) items)) (places_some libs items all some h) (places_below targets items)
