-- The maps of a text, by the keys of their entries.
use Rattle.std.specs.Prelude.{ℕ, Bool, not, List, [], ◌∷◌, map, take, length, slice_index_or, Option, Some, None, option_map, if◌then◌else◌, codes}
use Rattle.std.specs.List.{find, list_any}
use Rattle.std.specs.Option.{option_or}
use Rattle.ifs_bytes.specs.Places.{places}
use Rattle.ifs_interface.specs.Triple.{same_name}
use Rattle.yaml_nodes.specs.declared.node.Node.{Node}
use Rattle.yaml_nodes.specs.declared.node.Entry.{Entry, out-Entry}
use Rattle.ifs_text.specs.declared.cause.TextCause.{TextCause}
use Rattle.ifs_text.specs.declared.cause.TextCause.TheVariants.{UnknownKey, RepeatedKey, MissingKey}
use Rattle.ifs_text.specs.declared.maps.MapKind.{MapKind}
use Rattle.ifs_text.specs.declared.maps.MapKind.TheVariants.{Root, Target, Symbol}

-- the keys that a map may have
abbrev pub keys : MapKind → List (List ℕ)
keys Root = codes "IfsVersion" ∷ codes "SoName" ∷ codes "Target" ∷ codes "NeededLibs" ∷ codes "Symbols" ∷ []
keys Target = codes "ObjectFormat" ∷ codes "Arch" ∷ codes "Endianness" ∷ codes "BitWidth" ∷ []
keys Symbol = codes "Name" ∷ codes "Type" ∷ codes "Size" ∷ codes "Undefined" ∷ codes "Weak" ∷ codes "Warning" ∷ []

-- those that it has to have
abbrev pub needed_keys : MapKind → List (List ℕ)
needed_keys Root = codes "IfsVersion" ∷ []
needed_keys Target = []
needed_keys Symbol = codes "Name" ∷ codes "Type" ∷ []

-- a name stands among names
abbrev pub is_among : List ℕ → List (List ℕ) → Bool
is_among name names = list_any (λ n. same_name name n) names

-- the first that f gives
abbrev pub first_of : {X Y : Type 0} → (X → Option Y) → List X → Option Y
first_of f [] = None
first_of f (x ∷ xs) = option_or (f x) (first_of f xs)

-- the key and the value of an entry
abbrev pub key_of : Entry → List ℕ
key_of e = (out-Entry e).key

abbrev pub value_of : Entry → Node
value_of e = (out-Entry e).value

-- the value of a key
unfoldable pub value_at : List ℕ → List Entry → Option Node
value_at key entries = option_map value_of (find (λ e. same_name (key_of e) key) entries)

-- the key at a place, as it is no key of the map's, or stands before
abbrev pub key_fault_by : MapKind → List (List ℕ) → List ℕ → Option TextCause
key_fault_by kind before key =
    if not (is_among key (keys kind)) then Some (UnknownKey key)
    else (if is_among key before then Some (RepeatedKey key)
    else None)

unfoldable pub key_fault_at : MapKind → List Entry → ℕ → Option TextCause
key_fault_at kind entries i = key_fault_by kind (map key_of (take i entries)) (slice_index_or (map key_of entries) i [])

-- the first unknown or repeated key
unfoldable pub key_fault : MapKind → List Entry → Option TextCause
key_fault kind entries = first_of (key_fault_at kind entries) (places 0 (length entries))

-- a key, where it isn't there
abbrev pub missing : List (List ℕ) → List ℕ → Option TextCause
missing names key = if is_among key names then None else Some (MissingKey key)

-- the first key that is needed and isn't there
unfoldable pub missing_fault : MapKind → List Entry → Option TextCause
missing_fault kind entries = first_of (missing (map key_of entries)) (needed_keys kind)

-- what is wrong with the keys of a map: an unknown or repeated one, else a missing one
unfoldable pub keys_fault : MapKind → List Entry → Option TextCause
keys_fault kind entries = option_or (key_fault kind entries) (missing_fault kind entries)
