-- The maps of a text, by the keys of their entries.
use Rattle.std.specs.Prelude.{ℕ, Bool, not, List, [], ◌∷◌, map, take, length, slice_index_or, Option, Some, None, option_map, if◌then◌else◌}
use Rattle.std.specs.List.{find, list_any}
use Rattle.std.specs.Option.{option_or}
use denote.Ref.{Bor}
use Rattle.ifs_bytes.specs.Places.{places}
use Rattle.ifs_interface.specs.Triple.{same_name}
use Rattle.yaml_nodes.specs.declared.node.Node.{Node}
use Rattle.yaml_nodes.specs.declared.node.Entry.{Entry}
use Rattle.yaml_nodes.specs.Nodes.{key_of, value_of}
use Rattle.yaml_maps.specs.declared.maps.Wrong.{Wrong}
use Rattle.yaml_maps.specs.declared.maps.Wrong.TheVariants.{Unknown, Repeated, Missing}

-- a key, and what is wrong with it
pub record WrongKey : Type 0 where
  pub wrong : Wrong
  pub key : List ℕ

abbrev pub found : Wrong → List ℕ → WrongKey
found wrong key = record { wrong = wrong; key = key }

-- the texts that are lent
abbrev pub texts : List (Bor (List ℕ)) → List (List ℕ)
texts names = map (λ name. name.now) names

-- a name stands among names
abbrev pub is_among : List ℕ → List (List ℕ) → Bool
is_among name names = list_any (λ n. same_name name n) names

-- the first that f gives
abbrev pub first_of : {X Y : Type 0} → (X → Option Y) → List X → Option Y
first_of f [] = None
first_of f (x ∷ xs) = option_or (f x) (first_of f xs)

-- the value of a key
unfoldable pub value_at : List ℕ → List Entry → Option Node
value_at key entries = option_map value_of (find (λ e. same_name (key_of e) key) entries)

-- the key at a place, as it is none of the keys, or stands before
abbrev pub key_fault_by : List (List ℕ) → List (List ℕ) → List ℕ → Option WrongKey
key_fault_by keys before key =
    if not (is_among key keys) then Some (found Unknown key)
    else (if is_among key before then Some (found Repeated key)
    else None)

unfoldable pub key_fault_at : List (List ℕ) → List Entry → ℕ → Option WrongKey
key_fault_at keys entries i = key_fault_by keys (map key_of (take i entries)) (slice_index_or (map key_of entries) i [])

-- the first unknown or repeated key
unfoldable pub key_fault : List (List ℕ) → List Entry → Option WrongKey
key_fault keys entries = first_of (key_fault_at keys entries) (places 0 (length entries))

-- a key, where it isn't there
abbrev pub missing : List (List ℕ) → List ℕ → Option WrongKey
missing names key = if is_among key names then None else Some (found Missing key)

-- the first key that is needed and isn't there
unfoldable pub missing_fault : List (List ℕ) → List Entry → Option WrongKey
missing_fault needed entries = first_of (missing (map key_of entries)) needed

-- what is wrong with the keys of a map that may have keys and has to have needed: an unknown or repeated
-- one, else a missing one
unfoldable pub keys_fault : List (List ℕ) → List (List ℕ) → List Entry → Option WrongKey
keys_fault keys needed entries = option_or (key_fault keys entries) (missing_fault needed entries)
