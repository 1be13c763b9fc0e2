-- The root map of the document has no fault, and says the interface.
use Rattle.std.proofs.Common.{◌≡◌, ℕ, true, if◌then◌else◌, List, [], ◌∷◌, ◌++◌, map, codes, Option, Some, None, Ok, refl, sym, ap, ◌∙◌, subst}
use Rattle.std.specs.Prelude.{is_some, unwrap_or, option_map, option_and_then}
use Rattle.std.specs.List.{list_all, filter_map}
use Rattle.std.specs.Option.{option_or}
use Rattle.std.specs.List.Sorted.{IsPermutation}
use Rattle.std.proofs.lemmas.Bool.{and_parts, and_from}
use Rattle.std.proofs.lemmas.List.Sorted.{IsPermutation-refl}
use Rattle.ifs_interface.specs.declared.symbol.Symbol.{Symbol}
use Rattle.ifs_interface.specs.Interface.{InterfaceRecord, IsInterface, IsOf, is_proper_name, is_proper_soname}
use Rattle.yaml_nodes.specs.declared.node.Node.{Node}
use Rattle.yaml_nodes.specs.declared.node.Node.TheVariants as node
use Rattle.yaml_nodes.specs.declared.node.Entry.{Entry}
use Rattle.yaml_nodes.specs.Nodes.{entry, items_of}
use Rattle.ifs_text.specs.declared.cause.TextCause.TheVariants.{BadVersion}
use Rattle.ifs_text.specs.declared.maps.MapKind.TheVariants as kinds
use Rattle.ifs_text.specs.Document.{entry_of, needed_node, needed_entries, symbol_node, root_entries}
use Rattle.ifs_text.specs.DocumentBack.{HasNumbers}
use Rattle.ifs_text.specs.Maps.{first_of, key_fault_at, key_fault, missing_fault, keys_fault, value_at}
use Rattle.ifs_text.specs.Values.{name_in}
use Rattle.ifs_text.specs.Faults.{bad_unless, are_names, symbols_fault_by, symbols_fault, is_version, version_fault, root_value_fault, root_fault}
use Rattle.ifs_text.specs.Parts.{symbol_in, target_in, nothing_known, listed_at, soname_of, target_of, needed_of, symbols_of}
use Rattle.ifs_text.specs.Text.{interface_said}
use Rattle.ifs_text.proofs.DocumentBack.Entries.{Field, optional, entries_by, GivesNone, first_none, value_is, or_none}
use Rattle.ifs_text.proofs.DocumentBack.Nodes.{text_of_scalar, items_of_seq}
use Rattle.ifs_text.proofs.DocumentBack.Values.{name_read, names_read}
use Rattle.ifs_text.proofs.DocumentBack.Symbols.{text_value, symbols_right, symbols_read}
use Rattle.ifs_text.proofs.DocumentBack.Targets.{target_value, target_is, target_right, target_said}
use Rattle.ifs_text.proofs.Said.{said_ok}

-- ---- its fields

abbrev needed_value : List (List ℕ) → Option Node
needed_value [] = None
needed_value (name ∷ names) = Some (needed_node (name ∷ names))

abbrev symbols_value : List Symbol → Node
symbols_value symbols = node.Seq (map symbol_node symbols)

abbrev fields_by : Option Node → Option Node → Option Node → Node → List Field
fields_by soname target needed symbols =
    (codes "IfsVersion", Some (node.Scalar (codes "3.0"))) ∷ (codes "SoName", soname) ∷ (codes "Target", target)
    ∷ (codes "NeededLibs", needed) ∷ (codes "Symbols", Some symbols) ∷ []

abbrev pub fields : InterfaceRecord → List Field
fields i = fields_by (text_value i.soname) (target_value i.target) (needed_value i.needed) (symbols_value i.symbols)

soname_is : (soname : Option (List ℕ)) → entry_of (codes "SoName") soname ≡ optional (codes "SoName") (text_value soname)
soname_is None = refl
soname_is (Some soname) = refl

needed_is : (names : List (List ℕ)) → needed_entries names ≡ optional (codes "NeededLibs") (needed_value names)
needed_is [] = refl
needed_is (name ∷ names) = refl

abbrev root_by : Node → List Entry → List Entry → List Entry → List Entry
root_by symbols soname target needed =
    entries_by ((codes "IfsVersion", Some (node.Scalar (codes "3.0"))) ∷ []) ++ (soname ++ (target ++ (needed ++ entry (codes "Symbols") symbols ∷ [])))

pub entries_are : (i : InterfaceRecord) → root_entries i ≡ entries_by (fields i)
unfolding root_entries
entries_are i =
    let soname = soname_is i.soname in
    let target = target_is i.target in
    let needed = needed_is i.needed in
    λ j. root_by (symbols_value i.symbols) (soname j) (target j) (needed j)

-- ---- its keys and the version

keys_right : (soname target needed : Option Node) (symbols : Node) → keys_fault kinds.Root (entries_by (fields_by soname target needed symbols)) ≡ None
unfolding keys_fault key_fault key_fault_at missing_fault
keys_right None None None symbols = refl
keys_right None None (Some n) symbols = refl
keys_right None (Some t) None symbols = refl
keys_right None (Some t) (Some n) symbols = refl
keys_right (Some s) None None symbols = refl
keys_right (Some s) None (Some n) symbols = refl
keys_right (Some s) (Some t) None symbols = refl
keys_right (Some s) (Some t) (Some n) symbols = refl

version_right : (soname target needed : Option Node) (symbols : Node) → version_fault (entries_by (fields_by soname target needed symbols)) ≡ None
unfolding version_fault value_at
version_right soname target needed symbols =
    ap (λ text. if is_version text then None else Some BadVersion) (text_of_scalar (codes "3.0"))

-- ---- its values

version_value_right : GivesNone root_value_fault (codes "IfsVersion") (Some (node.Scalar (codes "3.0")))
unfolding root_value_fault
version_value_right = refl

soname_right : (soname : Option (List ℕ)) → is_proper_soname soname ≡ true → GivesNone root_value_fault (codes "SoName") (text_value soname)
unfolding root_value_fault
soname_right None proper = tt
soname_right (Some soname) proper = ap (λ o. bad_unless (is_some o) (codes "SoName")) (name_read soname proper)

all_names : (names : List (List ℕ)) → list_all is_proper_name names ≡ true → are_names (Some (map (λ name. node.Scalar name) names)) ≡ true
all_names [] proper = refl
all_names (name ∷ names) proper =
    let parts = and_parts (is_proper_name name) (list_all is_proper_name names) proper in
    and_from (is_some (name_in (node.Scalar name))) (are_names (Some (map (λ n. node.Scalar n) names))) (ap is_some (name_read name parts.0)) (all_names names parts.1)

needed_right : (names : List (List ℕ)) → list_all is_proper_name names ≡ true → GivesNone root_value_fault (codes "NeededLibs") (needed_value names)
unfolding root_value_fault
needed_right [] proper = tt
needed_right (name ∷ names) proper =
    ap (λ items. bad_unless (are_names items) (codes "NeededLibs")) (items_of_seq (map (λ n. node.Scalar n) (name ∷ names)))
    ∙ ap (λ test. bad_unless test (codes "NeededLibs")) (all_names (name ∷ names) proper)

symbols_value_right : (i : InterfaceRecord) → IsInterface i → HasNumbers i → GivesNone root_value_fault (codes "Symbols") (Some (symbols_value i.symbols))
unfolding root_value_fault symbols_fault
symbols_value_right i is numbers =
    ap (symbols_fault_by (codes "Symbols")) (items_of_seq (map symbol_node i.symbols)) ∙ symbols_right (codes "Symbols") i.symbols is.parts.names_are_proper numbers.sizes

values_right : (i : InterfaceRecord) → IsInterface i → HasNumbers i → first_of root_value_fault (entries_by (fields i)) ≡ None
values_right i is numbers =
    first_none root_value_fault (fields i) (
      version_value_right,
      (
        soname_right i.soname is.parts.soname_is_proper,
        (
          target_right i.target is.parts.target_is_proper numbers.machine,
          (
            needed_right i.needed is.parts.needed_are_proper,
            (symbols_value_right i is numbers, tt),
          ),
        ),
      ),
    )

pub root_right : (i : InterfaceRecord) → IsInterface i → HasNumbers i → root_fault (entries_by (fields i)) ≡ None
unfolding root_fault
root_right i is numbers =
    let es = entries_by (fields i) in
    let keys = keys_right (text_value i.soname) (target_value i.target) (needed_value i.needed) (symbols_value i.symbols) in
    let version = version_right (text_value i.soname) (target_value i.target) (needed_value i.needed) (symbols_value i.symbols) in
    ap (λ o. option_or o (option_or (version_fault es) (first_of root_value_fault es))) keys
    ∙ ap (λ o. option_or o (first_of root_value_fault es)) version ∙ values_right i is numbers

-- ---- what it says

soname_by : (soname : Option (List ℕ)) → is_proper_soname soname ≡ true → option_and_then name_in (text_value soname) ≡ soname
soname_by None proper = refl
soname_by (Some soname) proper = name_read soname proper

value_here : (i : InterfaceRecord) (key : List ℕ) (value : Option Node) → value_at key (entries_by (fields i)) ≡ option_or value None → value_at key (entries_by (fields i)) ≡ value
value_here i key value is = is ∙ or_none value

soname_said : (i : InterfaceRecord) → IsInterface i → soname_of (entries_by (fields i)) ≡ i.soname
soname_said i is =
    ap (option_and_then name_in) (value_here i (codes "SoName") (text_value i.soname) (value_is (codes "SoName") (fields i))) ∙ soname_by i.soname is.parts.soname_is_proper

root_target_said : (i : InterfaceRecord) → IsInterface i → HasNumbers i → target_of (entries_by (fields i)) ≡ i.target
root_target_said i is numbers =
    ap (λ v. unwrap_or (option_map target_in v) nothing_known) (value_here i (codes "Target") (target_value i.target) (value_is (codes "Target") (fields i)))
    ∙ target_said i.target is.parts.target_is_proper numbers.machine

items_listed : (names : List (List ℕ)) → unwrap_or (option_and_then items_of (needed_value names)) [] ≡ map (λ name. node.Scalar name) names
items_listed [] = refl
items_listed (name ∷ names) = ap (λ items. unwrap_or items []) (items_of_seq (map (λ n. node.Scalar n) (name ∷ names)))

needed_said : (i : InterfaceRecord) → IsInterface i → needed_of (entries_by (fields i)) ≡ i.needed
unfolding listed_at
needed_said i is =
    ap (λ v. filter_map name_in (unwrap_or (option_and_then items_of v) [])) (value_here i (codes "NeededLibs") (needed_value i.needed) (value_is (codes "NeededLibs") (fields i)))
    ∙ ap (filter_map name_in) (items_listed i.needed) ∙ names_read i.needed is.parts.needed_are_proper

symbols_said : (i : InterfaceRecord) → IsInterface i → HasNumbers i → symbols_of (entries_by (fields i)) ≡ i.symbols
unfolding listed_at
symbols_said i is numbers =
    ap (λ v. filter_map symbol_in (unwrap_or (option_and_then items_of v) [])) (value_is (codes "Symbols") (fields i))
    ∙ ap (λ items. filter_map symbol_in (unwrap_or items [])) (items_of_seq (map symbol_node i.symbols)) ∙ symbols_read i.symbols is.parts.names_are_proper numbers.sizes

are_said : (i : InterfaceRecord) → IsInterface i → HasNumbers i → IsOf (soname_of (entries_by (fields i))) (target_of (entries_by (fields i))) (needed_of (entries_by (fields i))) (symbols_of (entries_by (fields i))) i
are_said i is numbers = record {
  soname_is = sym (soname_said i is);
  target_is = sym (root_target_said i is numbers);
  needed_is = sym (needed_said i is);
  symbols_are = subst (λ symbols. IsPermutation symbols i.symbols) (sym (symbols_said i is numbers)) (IsPermutation-refl i.symbols);
  ascending = is.ascending;
}

pub root_said : (i : InterfaceRecord) → IsInterface i → HasNumbers i → interface_said (entries_by (fields i)) ≡ Ok i
root_said i is numbers = sym (said_ok (entries_by (fields i)) i (are_said i is numbers))
