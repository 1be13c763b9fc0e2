-- The libraries that the made file asks for, one by one.
use Rattle.std.specs.Prelude.{ℕ, Bool, not, ◌&&◌, ◌||◌, if◌then◌else◌, List, [], ◌∷◌, ◌++◌}
use Rattle.std.specs.List.{list_any}
use Rattle.ifs_interface.specs.Triple.{same_name}
use Rattle.link_core.specs.declared.options.LinkOptions.{LinkOptions}
use Rattle.link_core.specs.declared.resolution.NameRow.{NameRow}
use Rattle.link_core.specs.Exports.{is_from}

abbrev pub is_row_from : ℕ → NameRow → Bool
is_row_from library row = is_from library row.bound && not row.weak_only

abbrev pub is_asked : LinkOptions → List NameRow → ℕ → Bool
is_asked options rows library = not options.as_needed || list_any (is_row_from library) rows

-- the name is among them
abbrev pub has_text : List (List ℕ) → List ℕ → Bool
has_text names name = list_any (λ n. same_name n name) names

-- a name put behind others, unless it is among them
abbrev pub with_once : List (List ℕ) → List ℕ → List (List ℕ)
with_once names name = if has_text names name then names else names ++ name ∷ []

abbrev pub with_asked : Bool → List (List ℕ) → List ℕ → List (List ℕ)
with_asked asked names name = if asked then with_once names name else names
