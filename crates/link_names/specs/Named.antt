-- The names of a link, each by its mentions.
use Rattle.std.specs.Prelude.{ℕ, ◌==◌, Bool, true, false, not, ◌&&◌, if◌then◌else◌, List, [], ◌∷◌, filter, Option, Some, None, option_map, is_some, find, Result, Ok, Err}
use Rattle.link_core.specs.declared.constants.TheConstants.{STV_DEFAULT}
use Rattle.link_core.specs.declared.options.LinkOptions.{LinkOptions}
use Rattle.link_core.specs.declared.refusal.LinkRefusal.{LinkRefusal}
use Rattle.link_core.specs.declared.refusal.LinkRefusal.TheVariants as refusals
use Rattle.link_core.specs.declared.refusal.LinkStop.{LinkStop}
use Rattle.link_core.specs.declared.refusal.LinkStop.TheVariants as stops
use Rattle.link_core.specs.declared.resolution.Bound.{Bound}
use Rattle.link_core.specs.declared.resolution.Bound.TheVariants as bounds
use Rattle.link_core.specs.Binding.{binding_of}
use Rattle.link_core.specs.Mentions.{Mention, is_strong_definition, is_strong_want}
use Rattle.link_core.specs.Resolution.{bound_by, defined_twice}
use Rattle.link_core.specs.Side.{Library}
use Rattle.link_binding.specs.Row.{row_by}
use Rattle.link_names.specs.declared.names.Name.{Name}

-- the name of mentions that have one name
abbrev pub run_name : List Mention → List ℕ
run_name [] = []
run_name (m ∷ ms) = m.symbol.name

-- nothing is there for the name
abbrev pub is_bound_nowhere : Bound → Bool
is_bound_nowhere (bounds.Object object row) = false
is_bound_nowhere bounds.Common = false
is_bound_nowhere bounds.Provided = false
is_bound_nowhere (bounds.Library library) = false
is_bound_nowhere bounds.Import = true
is_bound_nowhere bounds.Zero = true

-- the object of the first mention that wants a name for which there is nothing
abbrev pub unmet_by : Bound → List Mention → Option ℕ
unmet_by bound mentions =
    if is_bound_nowhere bound then option_map (λ m. m.object) (find is_strong_want mentions) else None

abbrev pub name_with : LinkOptions → List Library → Bool → List ℕ → List Mention → Name
name_with options libraries provided name mentions = record {
  row = row_by options libraries provided name mentions;
  unmet = unmet_by (bound_by (binding_of (λ _. provided) libraries name mentions) mentions) mentions;
}

-- the name of these mentions, by which names the link provides
abbrev pub name_by : LinkOptions → List Library → (List ℕ → Bool) → List Mention → Name
name_by options libraries provided mentions =
    name_with options libraries (provided (run_name mentions)) (run_name mentions) mentions

-- ---- refusals

abbrev pub twice_in : List Mention → Option LinkRefusal
twice_in mentions = defined_twice (run_name mentions) (filter is_strong_definition mentions)

abbrev pub hidden_by : Name → Option LinkRefusal
hidden_by name =
    if name.row.visibility == STV_DEFAULT then None else option_map (λ o. refusals.HiddenUndefined name.row.name) name.unmet

abbrev pub undefined_by : Name → Option LinkRefusal
undefined_by name = option_map (refusals.Undefined name.row.name) name.unmet

-- a refusal ends a link
abbrev pub stopped_by : Option LinkRefusal → Result (Unit {0}) LinkStop
stopped_by None = Ok tt
stopped_by (Some refusal) = Err (stops.Refused refusal)

-- ---- which names these are

abbrev pub is_twice : List Mention → Bool
is_twice mentions = is_some (twice_in mentions)

abbrev pub is_undefined : Name → Bool
is_undefined name = is_some name.unmet

abbrev pub is_hidden : Name → Bool
is_hidden name = is_some name.unmet && not (name.row.visibility == STV_DEFAULT)
