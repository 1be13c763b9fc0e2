-- Names among those of a link.
use Rattle.std.specs.Prelude.{ℕ, Bool, true, false, ◌||◌, if◌then◌else◌, List, Option, Some, None, find}
use Rattle.std.specs.Option.{option_map_or}
use Rattle.ifs_interface.specs.Triple.{same_name}
use Rattle.link_core.specs.declared.options.LinkOptions.{LinkOptions}
use Rattle.link_core.specs.declared.refusal.LinkRefusal.{LinkRefusal}
use Rattle.link_core.specs.declared.refusal.LinkRefusal.TheVariants as refusals
use Rattle.link_core.specs.declared.resolution.Bound.{Bound}
use Rattle.link_core.specs.declared.resolution.Bound.TheVariants as bounds
use Rattle.link_core.specs.Exports.{is_shared}
use Rattle.link_binding.specs.Row.{is_offered_by}
use Rattle.link_names.specs.declared.names.Name.{Name}

-- the name with these bytes
abbrev pub name_in : List Name → List ℕ → Option Name
name_in names name = find (λ n. same_name n.row.name name) names

abbrev pub is_offered_at : Name → Bool
is_offered_at name = is_offered_by name.row.bound name.row.visibility

abbrev pub is_defined_at : Bound → Bool
is_defined_at (bounds.Object object row) = true
is_defined_at bounds.Common = false
is_defined_at bounds.Provided = false
is_defined_at (bounds.Library library) = false
is_defined_at bounds.Import = false
is_defined_at bounds.Zero = false

-- a program starts at a name that no object defines
abbrev pub entry_missing : LinkOptions → List Name → Option LinkRefusal
entry_missing options names =
    if is_shared options.kind || option_map_or (λ n. is_defined_at n.row.bound) (name_in names options.entry_name) false then None
    else Some (refusals.NoEntry options.entry_name)
