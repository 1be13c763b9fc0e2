-- The map of a symbol has no fault, and says the symbol.
use Rattle.std.proofs.Common.{◌≡◌, ℕ, ◌^◌, Bool, true, false, List, [], ◌∷◌, ◌++◌, map, codes, decimal, Option, Some, None, refl, ap, ◌∙◌}
use Rattle.std.specs.Prelude.{nat_lt, is_some, unwrap_or, option_map, option_and_then}
use Rattle.std.specs.List.{list_all, filter_map, cons_option}
use Rattle.std.specs.Option.{option_or}
use Rattle.std.proofs.lemmas.Bool.{and_parts, ltb-true}
use Rattle.ifs_interface.specs.declared.symbol.Kind.TheVariants.{NoType}
use Rattle.ifs_interface.specs.declared.symbol.Symbol.{Symbol}
use Rattle.ifs_interface.specs.Interface.{is_proper_name, names_of}
use Rattle.yaml_nodes.specs.declared.node.Node.{Node}
use Rattle.yaml_nodes.specs.declared.node.Node.TheVariants as node
use Rattle.yaml_nodes.specs.declared.node.Entry.{Entry}
use Rattle.yaml_nodes.specs.Nodes.{text_of}
use Rattle.ifs_text.specs.declared.maps.MapKind.TheVariants as kinds
use Rattle.ifs_text.specs.Printed.{kind_name}
use Rattle.ifs_text.specs.Document.{entry_of, size_entries, truth_entries, other_nodes, symbol_entries, symbol_node}
use Rattle.ifs_text.specs.Maps.{first_of, key_fault_at, key_fault, missing_fault, keys_fault, value_at}
use Rattle.ifs_text.specs.Values.{name_in, kind_in, size_in, truth_in}
use Rattle.ifs_text.specs.Faults.{bad_unless, symbol_value_fault, symbol_map_fault, symbol_fault_by, symbol_fault}
use Rattle.ifs_text.specs.Parts.{symbol_of, symbol_in_map, symbol_in}
use Rattle.ifs_text.proofs.DocumentBack.Entries.{Field, optional, entries_by, GivesNone, first_none, value_is, or_none}
use Rattle.ifs_text.proofs.DocumentBack.Nodes.{text_of_scalar, entries_of_map}
use Rattle.ifs_text.proofs.DocumentBack.Values.{name_read, kind_read, size_read, true_read}

-- ---- its fields

abbrev size_value : Option ℕ → Option Node
size_value None = None
size_value (Some size) = Some (node.Scalar (decimal size))

abbrev truth_value : Bool → Option Node
truth_value true = Some (node.Scalar (codes "true"))
truth_value false = None

abbrev pub text_value : Option (List ℕ) → Option Node
text_value None = None
text_value (Some text) = Some (node.Scalar text)

abbrev fields_by : Node → Node → Option Node → Option Node → Option Node → Option Node → List Field
fields_by name kind size undefined weak warning =
    (codes "Name", Some name) ∷ (codes "Type", Some kind) ∷ (codes "Size", size)
    ∷ (codes "Undefined", undefined) ∷ (codes "Weak", weak) ∷ (codes "Warning", warning) ∷ []

abbrev fields : Symbol → List Field
fields s = fields_by (node.Scalar s.name) (node.Scalar (kind_name s.kind)) (size_value s.size) (truth_value s.undefined) (truth_value s.weak) (text_value s.warning)

size_is : (size : Option ℕ) → size_entries size ≡ optional (codes "Size") (size_value size)
size_is None = refl
size_is (Some size) = refl

truth_is : (key : List ℕ) (holds : Bool) → truth_entries key holds ≡ optional key (truth_value holds)
truth_is key true = refl
truth_is key false = refl

warning_is : (warning : Option (List ℕ)) → entry_of (codes "Warning") warning ≡ optional (codes "Warning") (text_value warning) ++ []
warning_is None = refl
warning_is (Some warning) = refl

abbrev other_by : List Entry → List Entry → List Entry → List Entry → List Entry
other_by size undefined weak warning = size ++ (undefined ++ (weak ++ warning))

other_is : (s : Symbol) → other_nodes s ≡ entries_by ((codes "Size", size_value s.size) ∷ (codes "Undefined", truth_value s.undefined) ∷ (codes "Weak", truth_value s.weak) ∷ (codes "Warning", text_value s.warning) ∷ [])
unfolding other_nodes
other_is s =
    let size = size_is s.size in
    let undefined = truth_is (codes "Undefined") s.undefined in
    let weak = truth_is (codes "Weak") s.weak in
    let warning = warning_is s.warning in
    λ j. other_by (size j) (undefined j) (weak j) (warning j)

entries_are : (s : Symbol) → symbol_entries s ≡ entries_by (fields s)
unfolding symbol_entries
entries_are s = ap (λ es. entries_by ((codes "Name", Some (node.Scalar s.name)) ∷ (codes "Type", Some (node.Scalar (kind_name s.kind))) ∷ []) ++ es) (other_is s)

-- ---- its keys

keys_right : (n k : Node) (size undefined weak warning : Option Node) → keys_fault kinds.Symbol (entries_by (fields_by n k size undefined weak warning)) ≡ None
unfolding keys_fault key_fault key_fault_at missing_fault
keys_right n k None None None None = refl
keys_right n k None None None (Some w) = refl
keys_right n k None None (Some v) None = refl
keys_right n k None None (Some v) (Some w) = refl
keys_right n k None (Some u) None None = refl
keys_right n k None (Some u) None (Some w) = refl
keys_right n k None (Some u) (Some v) None = refl
keys_right n k None (Some u) (Some v) (Some w) = refl
keys_right n k (Some z) None None None = refl
keys_right n k (Some z) None None (Some w) = refl
keys_right n k (Some z) None (Some v) None = refl
keys_right n k (Some z) None (Some v) (Some w) = refl
keys_right n k (Some z) (Some u) None None = refl
keys_right n k (Some z) (Some u) None (Some w) = refl
keys_right n k (Some z) (Some u) (Some v) None = refl
keys_right n k (Some z) (Some u) (Some v) (Some w) = refl

-- ---- its values

abbrev is_small : Option ℕ → Bool
is_small size = nat_lt (unwrap_or size 0) (2 ^ 64)

name_right : (name : List ℕ) → is_proper_name name ≡ true → GivesNone symbol_value_fault (codes "Name") (Some (node.Scalar name))
unfolding symbol_value_fault
name_right name proper = ap (λ o. bad_unless (is_some o) (codes "Name")) (name_read name proper)

kind_right : (s : Symbol) → GivesNone symbol_value_fault (codes "Type") (Some (node.Scalar (kind_name s.kind)))
unfolding symbol_value_fault
kind_right s = ap (λ o. bad_unless (is_some o) (codes "Type")) (kind_read s.kind)

size_right : (size : Option ℕ) → is_small size ≡ true → GivesNone symbol_value_fault (codes "Size") (size_value size)
unfolding symbol_value_fault
size_right None small = tt
size_right (Some size) small = ap (λ o. bad_unless (is_some o) (codes "Size")) (size_read size (ltb-true size (2 ^ 64) small))

undefined_right : (holds : Bool) → GivesNone symbol_value_fault (codes "Undefined") (truth_value holds)
unfolding symbol_value_fault
undefined_right true = ap (λ o. bad_unless (is_some o) (codes "Undefined")) true_read
undefined_right false = tt

weak_right : (holds : Bool) → GivesNone symbol_value_fault (codes "Weak") (truth_value holds)
unfolding symbol_value_fault
weak_right true = ap (λ o. bad_unless (is_some o) (codes "Weak")) true_read
weak_right false = tt

warning_right : (warning : Option (List ℕ)) → GivesNone symbol_value_fault (codes "Warning") (text_value warning)
unfolding symbol_value_fault
warning_right None = tt
warning_right (Some warning) = ap (λ o. bad_unless (is_some o) (codes "Warning")) (text_of_scalar warning)

values_right : (s : Symbol) → is_proper_name s.name ≡ true → is_small s.size ≡ true → first_of symbol_value_fault (entries_by (fields s)) ≡ None
values_right s proper small =
    first_none symbol_value_fault (fields s)
    (name_right s.name proper, (kind_right s, (size_right s.size small, (undefined_right s.undefined, (weak_right s.weak, (warning_right s.warning, tt))))))

map_right : (s : Symbol) → is_proper_name s.name ≡ true → is_small s.size ≡ true → symbol_map_fault (symbol_entries s) ≡ None
unfolding symbol_map_fault
map_right s proper small =
    ap symbol_map_fault (entries_are s)
    ∙ ap (λ o. option_or o (first_of symbol_value_fault (entries_by (fields s)))) (keys_right _ _ (size_value s.size) (truth_value s.undefined) (truth_value s.weak) (text_value s.warning))
    ∙ values_right s proper small

symbol_right : (key : List ℕ) (s : Symbol) → is_proper_name s.name ≡ true → is_small s.size ≡ true → symbol_fault key (symbol_node s) ≡ None
unfolding symbol_fault
symbol_right key s proper small = ap (symbol_fault_by key) (entries_of_map (symbol_entries s)) ∙ map_right s proper small

-- ---- what it says

size_said : (size : Option ℕ) → is_small size ≡ true → option_and_then size_in (size_value size) ≡ size
size_said None small = refl
size_said (Some size) small = size_read size (ltb-true size (2 ^ 64) small)

truth_said : (holds : Bool) → unwrap_or (option_and_then truth_in (truth_value holds)) false ≡ holds
truth_said true = ap (λ o. unwrap_or o false) true_read
truth_said false = refl

warning_said : (warning : Option (List ℕ)) → option_and_then text_of (text_value warning) ≡ warning
warning_said None = refl
warning_said (Some warning) = text_of_scalar warning

value_here : (s : Symbol) (key : List ℕ) (value : Option Node) → value_at key (entries_by (fields s)) ≡ option_or value None → value_at key (entries_by (fields s)) ≡ value
value_here s key value is = is ∙ or_none value

symbol_said : (s : Symbol) → is_small s.size ≡ true → symbol_of (entries_by (fields s)) s.name ≡ s
symbol_said s small =
    let kind = ap (λ v. unwrap_or (option_and_then kind_in v) NoType) (value_is (codes "Type") (fields s)) ∙ ap (λ k. unwrap_or k NoType) (kind_read s.kind) in
    let size = ap (option_and_then size_in) (value_here s (codes "Size") (size_value s.size) (value_is (codes "Size") (fields s))) ∙ size_said s.size small in
    let weak = ap (λ v. unwrap_or (option_and_then truth_in v) false) (value_here s (codes "Weak") (truth_value s.weak) (value_is (codes "Weak") (fields s))) ∙ truth_said s.weak in
    let undefined = ap (λ v. unwrap_or (option_and_then truth_in v) false) (value_here s (codes "Undefined") (truth_value s.undefined) (value_is (codes "Undefined") (fields s))) ∙ truth_said s.undefined in
    let warning = ap (option_and_then text_of) (value_here s (codes "Warning") (text_value s.warning) (value_is (codes "Warning") (fields s))) ∙ warning_said s.warning in
    λ j. record { name = s.name; kind = kind j; size = size j; weak = weak j; undefined = undefined j; warning = warning j }

map_said : (s : Symbol) → is_proper_name s.name ≡ true → is_small s.size ≡ true → symbol_in_map (entries_by (fields s)) ≡ Some s
unfolding symbol_in_map
map_said s proper small =
    ap (λ v. option_map (symbol_of (entries_by (fields s))) (option_and_then name_in v)) (value_is (codes "Name") (fields s))
    ∙ ap (option_map (symbol_of (entries_by (fields s)))) (name_read s.name proper) ∙ ap Some (symbol_said s small)

symbol_read : (s : Symbol) → is_proper_name s.name ≡ true → is_small s.size ≡ true → symbol_in (symbol_node s) ≡ Some s
unfolding symbol_in
symbol_read s proper small =
    ap (option_and_then symbol_in_map) (entries_of_map (symbol_entries s)) ∙ ap symbol_in_map (entries_are s) ∙ map_said s proper small

-- ---- all symbols

pub symbols_right : (key : List ℕ) (ss : List Symbol) → list_all is_proper_name (names_of ss) ≡ true → list_all (λ s. is_small s.size) ss ≡ true → first_of (symbol_fault key) (map symbol_node ss) ≡ None
symbols_right key [] proper small = refl
symbols_right key (s ∷ ss) proper small =
    let name = and_parts (is_proper_name s.name) (list_all is_proper_name (names_of ss)) proper in
    let size = and_parts (is_small s.size) (list_all (λ t. is_small t.size) ss) small in
    ap (λ o. option_or o (first_of (symbol_fault key) (map symbol_node ss))) (symbol_right key s name.0 size.0) ∙ symbols_right key ss name.1 size.1

pub symbols_read : (ss : List Symbol) → list_all is_proper_name (names_of ss) ≡ true → list_all (λ s. is_small s.size) ss ≡ true → filter_map symbol_in (map symbol_node ss) ≡ ss
symbols_read [] proper small = refl
symbols_read (s ∷ ss) proper small =
    let name = and_parts (is_proper_name s.name) (list_all is_proper_name (names_of ss)) proper in
    let size = and_parts (is_small s.size) (list_all (λ t. is_small t.size) ss) small in
    ap (λ first. cons_option first (filter_map symbol_in (map symbol_node ss))) (symbol_read s name.0 size.0) ∙ ap (λ rest. s ∷ rest) (symbols_read ss name.1 size.1)
