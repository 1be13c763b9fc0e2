-- The least name that a library wants in vain.
use Rattle.std.specs.Prelude.{ℕ, Bool, false, not, ◌&&◌, if◌then◌else◌, List, [], ◌∷◌, Option, Some, None, option_and_then}
use Rattle.std.specs.Option.{option_map_or}
use denote.Ref.{Bor}
use Rattle.ifs_interface.specs.Interface.{comes_before}
use Rattle.link_core.specs.Resolution.{is_defined_by_one}
use Rattle.link_core.specs.Side.{Library}
use Rattle.link_names.specs.declared.names.Name.{Name}
use Rattle.link_names.specs.Bounds.{is_provided_by}
use Rattle.link_checks.specs.Found.{is_offered_at, name_in}

-- the lesser of two names, where there are any
abbrev pub lesser : Option (List ℕ) → Option (List ℕ) → Option (List ℕ)
lesser None other = other
lesser (Some a) None = Some a
lesser (Some a) (Some b) = if comes_before b a then Some b else Some a

-- nothing is there for a name that a library wants
abbrev pub is_missing_by : List Name → List Library → List (Bor (List ℕ)) → List ℕ → Bool
is_missing_by names libraries sections name =
    not (is_defined_by_one libraries name) && not (is_provided_by sections name)
    && not (option_map_or is_offered_at (name_in names name) false)

-- a name that is wanted strongly and is missing
abbrev pub missing_wanted : (List ℕ → Bool) → List ℕ × Bool → Option (List ℕ)
missing_wanted missing wanted = if wanted.1 && missing wanted.0 then Some wanted.0 else None

abbrev pub missing_place : (List ℕ → Bool) → Option (List ℕ × Bool) → Option (List ℕ)
missing_place missing place = option_and_then (missing_wanted missing) place

-- the least of those at places
abbrev pub least_from : (List ℕ → Bool) → List (Option (List ℕ × Bool)) → Option (List ℕ)
least_from missing [] = None
least_from missing (place ∷ places) = lesser (missing_place missing place) (least_from missing places)
