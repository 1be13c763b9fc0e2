-- What a text says is of proper names, and of a proper target.
use Rattle.std.proofs.Common.{◌≡◌, ℕ, ◌<◌, ◌==◌, Bool, true, false, cond, not, ◌||◌, ◌&&◌, length, arith, List, [], ◌∷◌, Option, Some, None, refl}
use Rattle.std.specs.Prelude.{is_some, unwrap_or, option_map, option_and_then}
use Rattle.std.specs.List.{list_all, list_any, filter_map, cons_option}
use Rattle.std.proofs.lemmas.Bool.{and_from}
use Rattle.ifs_interface.specs.declared.symbol.Symbol.{Symbol}
use Rattle.ifs_interface.specs.declared.target.Target.{Target}
use Rattle.ifs_interface.specs.Interface.{is_proper_name, is_proper_soname, is_proper_target, names_of, AreParts}
use Rattle.ifs_interface.specs.Triple.{parts_of_triple}
use Rattle.yaml_nodes.specs.declared.node.Node.{Node}
use Rattle.yaml_nodes.specs.declared.node.Entry.{Entry}
use Rattle.yaml_nodes.specs.Nodes.{text_of, entries_of}
use Rattle.ifs_text.specs.Maps.{value_at}
use Rattle.ifs_text.specs.Values.{proper, name_in}
use Rattle.ifs_text.specs.Parts.{said_name, symbol_of, symbol_in_map, symbol_in, nothing_known, target_by, target_in, soname_of, target_of, needed_of, symbols_of}

-- a name that may be there is proper
abbrev is_good : Option (List ℕ) → Bool
is_good name = is_proper_soname name

proper_by : (b : Bool) (name : List ℕ) → is_proper_name name ≡ b → is_good (cond b (Some name) None) ≡ true
proper_by true name e = e
proper_by false name e = refl

good_text : (text : Option (List ℕ)) → is_good (option_and_then proper text) ≡ true
good_text None = refl
good_text (Some name) = proper_by (is_proper_name name) name refl

good_name : (node : Node) → is_good (name_in node) ≡ true
unfolding name_in
good_name node = good_text (text_of node)

good_said : (value : Option Node) → is_good (option_and_then name_in value) ≡ true
good_said None = refl
good_said (Some node) = good_name node

-- ---- lists

names_by : (name : Option (List ℕ)) (names : List (List ℕ)) → is_good name ≡ true → list_all is_proper_name names ≡ true → list_all is_proper_name (cons_option name names) ≡ true
names_by None names h rest = rest
names_by (Some name) names h rest = and_from (is_proper_name name) (list_all is_proper_name names) h rest

good_names : (items : List Node) → list_all is_proper_name (filter_map name_in items) ≡ true
good_names [] = refl
good_names (item ∷ items) = names_by (name_in item) (filter_map name_in items) (good_name item) (good_names items)

abbrev is_named : Option Symbol → Bool
is_named None = true
is_named (Some symbol) = is_proper_name symbol.name

named_by : (entries : List Entry) (name : Option (List ℕ)) → is_good name ≡ true → is_named (option_map (symbol_of entries) name) ≡ true
named_by entries None h = refl
named_by entries (Some name) h = h

good_map : (entries : List Entry) → is_named (symbol_in_map entries) ≡ true
unfolding symbol_in_map
good_map entries = named_by entries (said_name entries) (good_said (value_at _ entries))

good_entries : (entries : Option (List Entry)) → is_named (option_and_then symbol_in_map entries) ≡ true
good_entries None = refl
good_entries (Some entries) = good_map entries

good_symbol : (item : Node) → is_named (symbol_in item) ≡ true
unfolding symbol_in
good_symbol item = good_entries (entries_of item)

symbols_by : (symbol : Option Symbol) (symbols : List Symbol) → is_named symbol ≡ true → list_all is_proper_name (names_of symbols) ≡ true → list_all is_proper_name (names_of (cons_option symbol symbols)) ≡ true
symbols_by None symbols h rest = rest
symbols_by (Some symbol) symbols h rest = and_from (is_proper_name symbol.name) (list_all is_proper_name (names_of symbols)) h rest

good_symbols : (items : List Node) → list_all is_proper_name (names_of (filter_map symbol_in items)) ≡ true
good_symbols [] = refl
good_symbols (item ∷ items) = symbols_by (symbol_in item) (filter_map symbol_in items) (good_symbol item) (good_symbols items)

-- ---- the target

abbrev is_fine : Target → Bool
is_fine target = is_proper_target target.triple target

fine_triple : (b : Bool) (triple : List ℕ) → is_some (parts_of_triple triple) ≡ b → is_fine (cond b (record { triple = Some triple; machine = None; order = None; width = None }) nothing_known) ≡ true
fine_triple true triple e = and_from _ _ (and_from _ _ (and_from _ _ e refl) refl) refl
fine_triple false triple e = refl

fine_by : (triple : Option (List ℕ)) (entries : Option (List Entry)) → is_fine (target_by triple entries) ≡ true
fine_by (Some triple) entries = fine_triple (is_some (parts_of_triple triple)) triple refl
fine_by None (Some entries) = refl
fine_by None None = refl

fine_target : (value : Node) → is_fine (target_in value) ≡ true
unfolding target_in
fine_target value = fine_by (text_of value) (entries_of value)

fine_said : (value : Option Node) → is_fine (unwrap_or (option_map target_in value) nothing_known) ≡ true
fine_said None = refl
fine_said (Some value) = fine_target value

-- what the map of the root says are the parts of an interface
pub are_parts : (entries : List Entry) → AreParts (soname_of entries) (target_of entries) (needed_of entries) (symbols_of entries)
are_parts entries = record {
  soname_is_proper = good_said (value_at _ entries);
  target_is_proper = fine_said (value_at _ entries);
  needed_are_proper = good_names _;
  names_are_proper = good_symbols _;
}

-- ---- the test of a name

no_nul : (ns : List ℕ) → list_all (λ c. not (c == 0)) ns ≡ not (list_any (λ c. c == 0) ns)
no_nul [] = refl
no_nul (n ∷ ns) =
    elim (n == 0) as (λ b. (not b && list_all (λ c. not (c == 0)) ns) ≡ not (b || list_any (λ c. c == 0) ns)) [ true ↦ refl | false ↦ no_nul ns ]

pub proper_some : (ns : List ℕ) → 0 < length ns → is_proper_name ns ≡ not (list_any (λ c. c == 0) ns)
proper_some [] some = absurd (omega (arith, some))
proper_some (n ∷ ns) some = no_nul (n ∷ ns)
