-- Maps of fields, each a key with a value that may be there.
use Rattle.std.proofs.Common.{◌≡◌, ℕ, Bool, true, false, cond, List, [], ◌∷◌, ◌++◌, Option, Some, None, refl, ap, ◌∙◌}
use Rattle.std.specs.Prelude.{option_map}
use Rattle.std.specs.List.{find}
use Rattle.std.specs.Option.{option_or}
use Rattle.ifs_interface.specs.Triple.{same_name}
use Rattle.yaml_nodes.specs.declared.node.Node.{Node}
use Rattle.yaml_nodes.specs.declared.node.Entry.{Entry}
use Rattle.yaml_nodes.specs.Nodes.{entry}
use Rattle.ifs_text.specs.Maps.{first_of, key_of, value_of, value_at}

abbrev pub Field : Type 0
Field = List ℕ × Option Node

-- the entry of a value that may be there
abbrev pub optional : List ℕ → Option Node → List Entry
optional key None = []
optional key (Some value) = entry key value ∷ []

abbrev pub entries_by : List Field → List Entry
entries_by [] = []
entries_by (f ∷ fs) = optional f.0 f.1 ++ entries_by fs

-- ---- the first that a function gives

-- it gives nothing of the value, where that is there
abbrev pub GivesNone : {Y : Type 0} → (Entry → Option Y) → List ℕ → Option Node → Type 0
GivesNone g key None = Unit {0}
GivesNone g key (Some value) = g (entry key value) ≡ None

abbrev pub EachGivesNone : {Y : Type 0} → (Entry → Option Y) → List Field → Type 0
EachGivesNone g [] = Unit {0}
EachGivesNone g (f ∷ fs) = GivesNone g f.0 f.1 × EachGivesNone g fs

none_before : {Y : Type 0} (g : Entry → Option Y) (key : List ℕ) (value : Option Node) (es : List Entry) → GivesNone g key value → first_of g es ≡ None → first_of g (optional key value ++ es) ≡ None
none_before g key None es h rest = rest
none_before g key (Some value) es h rest = ap (λ o. option_or o (first_of g es)) h ∙ rest

pub first_none : {Y : Type 0} (g : Entry → Option Y) (fs : List Field) → EachGivesNone g fs → first_of g (entries_by fs) ≡ None
first_none g [] h = refl
first_none g (f ∷ fs) h = none_before g f.0 f.1 (entries_by fs) h.0 (first_none g fs h.1)

-- ---- the value of a key

abbrev if_same : Bool → Option Node → Option Node
if_same same value = cond same value None

abbrev pub value_by : List ℕ → List Field → Option Node
value_by key [] = None
value_by key (f ∷ fs) = option_or (if_same (same_name f.0 key) f.1) (value_by key fs)

found_by : (same : Bool) (e : Entry) (rest : Option Entry) → option_map value_of (cond same (Some e) rest) ≡ option_or (if_same same (Some (value_of e))) (option_map value_of rest)
found_by true e rest = refl
found_by false e rest = refl

nothing_by : (same : Bool) (rest : Option Node) → rest ≡ option_or (if_same same None) rest
nothing_by true rest = refl
nothing_by false rest = refl

value_of_field : (key other : List ℕ) (value : Option Node) (es : List Entry) → value_at key (optional other value ++ es) ≡ option_or (if_same (same_name other key) value) (value_at key es)
unfolding value_at
value_of_field key other None es = nothing_by (same_name other key) (value_at key es)
value_of_field key other (Some value) es =
    found_by (same_name other key) (entry other value) (find (λ e. same_name (key_of e) key) es)

pub value_is : (key : List ℕ) (fs : List Field) → value_at key (entries_by fs) ≡ value_by key fs
unfolding value_at
value_is key [] = refl
value_is key (f ∷ fs) =
    value_of_field key f.0 f.1 (entries_by fs) ∙ ap (option_or (if_same (same_name f.0 key) f.1)) (value_is key fs)

-- a value, and nothing behind it
pub or_none : (value : Option Node) → option_or value None ≡ value
or_none None = refl
or_none (Some value) = refl
