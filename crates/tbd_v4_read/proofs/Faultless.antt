-- What holds of the maps of a library with which nothing is wrong.
use Rattle.std.proofs.Common.{◌≡◌, ℕ, Bool, true, false, cond, ◌||◌, List, [], ◌∷◌, map, Option, Some, None, refl, sym, ap, ◌∙◌, subst}
use Rattle.std.specs.Prelude.{is_some, unwrap_or, option_map, option_and_then, codes}
use Rattle.std.specs.List.{find}
use Rattle.std.proofs.lemmas.Bool.{false≢true}
use Rattle.std.proofs.lemmas.Option.{none-some}
use Rattle.std.specs.Cmp.Lexicographic.{nat_list_eq_equiv}
use Rattle.ifs_interface.specs.Triple.{same_name}
use Rattle.ifs_interface.specs.Interface.{is_proper_name}
use Rattle.ifs_interface.proofs.Names.{same_name-is}
use Rattle.yaml_nodes.specs.declared.node.Node.{Node}
use Rattle.yaml_nodes.specs.declared.node.Entry.{Entry}
use Rattle.yaml_nodes.specs.Nodes.{key_of, value_of, items_of, entries_of}
use Rattle.yaml_maps.specs.declared.maps.Wrong.TheVariants.{Missing}
use Rattle.yaml_maps.specs.Maps.{WrongKey, found, is_among, first_of, missing, missing_fault, key_fault, keys_fault, value_at}
use Rattle.tbd_core.specs.declared.cause.TbdCause.{TbdCause}
use Rattle.tbd_core.specs.declared.cause.TbdCause.TheVariants.{BadValue}
use Rattle.tbd_core.specs.Fault.{bad_unless}
use Rattle.tbd_v4_read.specs.declared.keys.GroupKind.{GroupKind}
use Rattle.tbd_v4_read.specs.declared.keys.GroupKind.TheVariants.{Umbrella, Clients, Libraries, Symbols}
use Rattle.tbd_v4_read.specs.Keys.{key_cause, library_keys, library_needs, library_keys_fault, group_kind, group_keys, group_needs, group_keys_fault, items_at, map_entries, sequence_of}
use Rattle.tbd_v4_read.specs.Values.{name_in, some_names, are_group_targets, different_names, are_library_targets, holds_in}
use Rattle.tbd_v4_read.specs.Faults.{is_group_value, group_value_fault, group_map_fault, group_fault_by, group_fault, groups_fault_by, groups_fault, value_fault_by, value_fault, unknown_at_by, unknown_at, unknown_in_group, is_single_value}
use Rattle.tbd_v4_read.specs.Library.{install_name}
use Rattle.tbd_v4_read.proofs.Gathered.{passes, good_name, option_or_none}

-- ---- keys

is_none_by : (fault : Option WrongKey) → option_map key_cause fault ≡ None → fault ≡ None
is_none_by None h = refl
is_none_by (Some f) h = absurd (none-some (key_cause f) (sym h))

there_by : (there : Bool) (key : List ℕ) → cond there None (Some (found Missing key)) ≡ None → there ≡ true
there_by true key h = refl
there_by false key h = absurd (none-some (found Missing key) (sym h))

-- a name among keys is the key of an entry
found_key : (key : List ℕ) (es : List Entry) → is_among key (map key_of es) ≡ true → (e : Entry) × (find (λ e. same_name (key_of e) key) es ≡ Some e)
found_key key [] h = absurd (false≢true h)
found_key key (e ∷ es) h = by (same_name (key_of e) key) refl (ap (λ b. b || is_among key (map key_of es)) (nat_list_eq_equiv.symm (key_of e) key) ∙ h) (found_key key es)
  where
    by : (b : Bool) → same_name (key_of e) key ≡ b → (same_name (key_of e) key || is_among key (map key_of es)) ≡ true → (is_among key (map key_of es) ≡ true → (e : Entry) × (find (λ e. same_name (key_of e) key) es ≡ Some e)) → (f : Entry) × (cond (same_name (key_of e) key) (Some e) (find (λ e. same_name (key_of e) key) es) ≡ Some f)
    by true same g rest = (e, ap (λ b. cond b (Some e) (find (λ e. same_name (key_of e) key) es)) same)
    by false same g rest =
        let later = rest (sym (ap (λ b. b || is_among key (map key_of es)) same) ∙ g) in
        (later.0, ap (λ b. cond b (Some e) (find (λ e. same_name (key_of e) key) es)) same ∙ later.1)

-- an entry that is found has the key, and with it nothing is wrong
found_is : (g : List ℕ → Node → Option TbdCause) (key : List ℕ) (es : List Entry) → first_of (λ e. g (key_of e) (value_of e)) es ≡ None → (f : Entry) → find (λ e. same_name (key_of e) key) es ≡ Some f → g key (value_of f) ≡ None
found_is g key [] none f is = absurd (none-some f is)
found_is g key (e ∷ es) none f is =
    let parts = option_or_none (g (key_of e) (value_of e)) (first_of (λ e. g (key_of e) (value_of e)) es) none in
    by (same_name (key_of e) key) refl parts.0 (found_is g key es parts.1 f) is
  where
    by : (b : Bool) → same_name (key_of e) key ≡ b → g (key_of e) (value_of e) ≡ None → (find (λ e. same_name (key_of e) key) es ≡ Some f → g key (value_of f) ≡ None) → cond b (Some e) (find (λ e. same_name (key_of e) key) es) ≡ Some f → g key (value_of f) ≡ None
    by true same here rest at =
        let e_is : e ≡ f = ap (λ o. unwrap_or o e) at in
        subst (λ x. g key (value_of x) ≡ None) e_is (subst (λ k. g k (value_of e) ≡ None) (same_name-is (key_of e) key same) here)
    by false same here rest at = rest at

-- what a key has
pub value_is : (g : List ℕ → Node → Option TbdCause) (key : List ℕ) (es : List Entry) → first_of (λ e. g (key_of e) (value_of e)) es ≡ None → (v : Node) → value_at key es ≡ Some v → g key v ≡ None
unfolding value_at
value_is g key es none v is = by (find (λ e. same_name (key_of e) key) es) refl is
  where
    by : (o : Option Entry) → find (λ e. same_name (key_of e) key) es ≡ o → option_map value_of o ≡ Some v → g key v ≡ None
    by None at h = absurd (none-some v h)
    by (Some f) at h = subst (λ x. g key x ≡ None) (ap (λ o. unwrap_or o v) h) (found_is g key es none f at)

-- the first of the keys that are needed is there
first_there : (keys : List (List ℕ)) (key : List ℕ) (needs : List (List ℕ)) (es : List Entry) → keys_fault keys (key ∷ needs) es ≡ None → (v : Node) × (value_at key es ≡ Some v)
unfolding keys_fault missing_fault value_at
first_there keys key needs es h =
    let none = option_or_none (key_fault keys es) (missing_fault (key ∷ needs) es) h in
    let here = option_or_none (missing (map key_of es) key) (first_of (missing (map key_of es)) needs) none.1 in
    let at = found_key key es (there_by (is_among key (map key_of es)) key here.0) in
    (value_of at.0, ap (option_map value_of) at.1)

-- ---- values

bad_none : (holds : Bool) (key : List ℕ) → bad_unless holds key ≡ None → holds ≡ true
bad_none true key h = refl
bad_none false key h = absurd (none-some (BadValue key) (sym h))

from_holds : (test : List Node → Bool) (items : Option (List Node)) → holds_in test items ≡ true → test (unwrap_or items []) ≡ true
from_holds test None h = absurd (false≢true h)
from_holds test (Some items) h = h

-- ---- a group

targets_needed : (kind : GroupKind) (es : List Entry) → group_keys_fault kind es ≡ None → (v : Node) × (value_at (codes "targets") es ≡ Some v)
unfolding group_keys_fault group_needs
targets_needed Umbrella es h = first_there (group_keys Umbrella) (codes "targets") (codes "umbrella" ∷ []) es (is_none_by (keys_fault (group_keys Umbrella) (group_needs Umbrella) es) h)
targets_needed Clients es h = first_there (group_keys Clients) (codes "targets") [] es (is_none_by (keys_fault (group_keys Clients) (group_needs Clients) es) h)
targets_needed Libraries es h = first_there (group_keys Libraries) (codes "targets") [] es (is_none_by (keys_fault (group_keys Libraries) (group_needs Libraries) es) h)
targets_needed Symbols es h = first_there (group_keys Symbols) (codes "targets") [] es (is_none_by (keys_fault (group_keys Symbols) (group_needs Symbols) es) h)

group_targets : (kind : GroupKind) (es : List Entry) → group_map_fault kind es ≡ None → some_names (items_at (codes "targets") es) ≡ true
unfolding group_map_fault group_value_fault are_group_targets items_at
group_targets kind es h =
    let none = option_or_none (group_keys_fault kind es) (first_of group_value_fault es) h in
    let at = targets_needed kind es none.0 in
    let value = value_is (λ key value. bad_unless (is_group_value key value) key) (codes "targets") es none.1 at.0 at.1 in
    ap (λ o. some_names (sequence_of o)) at.1 ∙ from_holds some_names (items_of at.0) (bad_none (is_group_value (codes "targets") at.0) (codes "targets") value)

-- a group has targets
pub some_targets : (key : List ℕ) (kind : GroupKind) (item : Node) → group_fault key kind item ≡ None → some_names (items_at (codes "targets") (map_entries item)) ≡ true
unfolding group_fault
some_targets key kind item h = by (entries_of item) h
  where
    by : (o : Option (List Entry)) → group_fault_by key kind o ≡ None → some_names (items_at (codes "targets") (unwrap_or o [])) ≡ true
    by None g = absurd (none-some (BadValue key) (sym g))
    by (Some es) g = group_targets kind es g

-- ---- the groups of a key

groups_by : (key : List ℕ) (kind : GroupKind) (items : Option (List Node)) → groups_fault_by key kind items ≡ None → first_of (group_fault key kind) (unwrap_or items []) ≡ None
groups_by key kind None h = absurd (none-some (BadValue key) (sym h))
groups_by key kind (Some items) h = h

pub groups_right : (key : List ℕ) (kind : GroupKind) (entries : List Entry) → group_kind key ≡ Some kind → first_of value_fault entries ≡ None → first_of (group_fault key kind) (items_at key entries) ≡ None
unfolding value_fault groups_fault items_at
groups_right key kind entries of_kind none = by (value_at key entries) refl
  where
    by : (o : Option Node) → value_at key entries ≡ o → first_of (group_fault key kind) (sequence_of o) ≡ None
    by None at = refl
    by (Some v) at =
        let value = value_is (λ k x. value_fault_by k x (group_kind k)) key entries none v at in
        groups_by key kind (items_of v) (sym (ap (value_fault_by key v) of_kind) ∙ value)

pub groups_known : (libs : List Node) (key : List ℕ) (kind : GroupKind) (entries : List Entry) → group_kind key ≡ Some kind → first_of (unknown_at libs) entries ≡ None → first_of (unknown_in_group libs) (items_at key entries) ≡ None
unfolding unknown_at items_at
groups_known libs key kind entries of_kind none = by (value_at key entries) refl
  where
    by : (o : Option Node) → value_at key entries ≡ o → first_of (unknown_in_group libs) (sequence_of o) ≡ None
    by None at = refl
    by (Some v) at =
        sym (ap (unknown_at_by libs v) of_kind) ∙ value_is (λ k x. unknown_at_by libs x (group_kind k)) key entries none v at

-- ---- the keys that a library needs

second_there : (keys : List (List ℕ)) (first key : List ℕ) (needs : List (List ℕ)) (es : List Entry) → keys_fault keys (first ∷ key ∷ needs) es ≡ None → (v : Node) × (value_at key es ≡ Some v)
unfolding keys_fault missing_fault value_at
second_there keys first key needs es h =
    let none = option_or_none (key_fault keys es) (missing_fault (first ∷ key ∷ needs) es) h in
    let behind = option_or_none (missing (map key_of es) first) (first_of (missing (map key_of es)) (key ∷ needs)) none.1 in
    let here = option_or_none (missing (map key_of es) key) (first_of (missing (map key_of es)) needs) behind.1 in
    let at = found_key key es (there_by (is_among key (map key_of es)) key here.0) in
    (value_of at.0, ap (option_map value_of) at.1)

-- the targets are names, each once
pub library_targets : (entries : List Entry) → library_keys_fault entries ≡ None → first_of value_fault entries ≡ None → different_names (items_at (codes "targets") entries) ≡ true
unfolding library_keys_fault library_needs value_fault is_single_value are_library_targets items_at
library_targets entries keys none =
    let at = first_there library_keys (codes "targets") (codes "install-name" ∷ []) entries (is_none_by (keys_fault library_keys library_needs entries) keys) in
    let value = value_is (λ k x. value_fault_by k x (group_kind k)) (codes "targets") entries none at.0 at.1 in
    ap (λ o. different_names (sequence_of o)) at.1 ∙ from_holds different_names (items_of at.0) (bad_none (is_single_value (codes "targets") at.0) (codes "targets") value)

proper_by : (name : Option (List ℕ)) → is_some name ≡ true → passes is_proper_name name ≡ true → is_proper_name (unwrap_or name []) ≡ true
proper_by None h g = absurd (false≢true h)
proper_by (Some name) h g = g

pub library_name : (entries : List Entry) → library_keys_fault entries ≡ None → first_of value_fault entries ≡ None → is_proper_name (install_name entries) ≡ true
unfolding library_keys_fault library_needs value_fault is_single_value install_name
library_name entries keys none =
    let at = second_there library_keys (codes "targets") (codes "install-name") [] entries (is_none_by (keys_fault library_keys library_needs entries) keys) in
    let value = value_is (λ k x. value_fault_by k x (group_kind k)) (codes "install-name") entries none at.0 at.1 in
    ap (λ o. is_proper_name (unwrap_or (option_and_then name_in o) [])) at.1
    ∙ proper_by (name_in at.0) (bad_none (is_single_value (codes "install-name") at.0) (codes "install-name") value) (good_name at.0)
