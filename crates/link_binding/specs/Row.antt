-- The row of a name, by its mentions.
use Rattle.std.specs.Prelude.{ℕ, Bool, true, false, ◌&&◌, ◌||◌, List}
use Rattle.std.specs.List.{list_any}
use Rattle.link_core.specs.declared.options.LinkOptions.{LinkOptions}
use Rattle.link_core.specs.declared.resolution.Bound.{Bound}
use Rattle.link_core.specs.declared.resolution.Bound.TheVariants as bounds
use Rattle.link_core.specs.declared.resolution.NameRow.{NameRow}
use Rattle.link_core.specs.Binding.{Binding, binding_of}
use Rattle.link_core.specs.Exports.{is_exported, is_preemptible, is_shared, is_spoken_of, is_visible}
use Rattle.link_core.specs.Mentions.{Mention, are_weak, strictest}
use Rattle.link_core.specs.Resolution.{bound_by, class_by}
use Rattle.link_core.specs.Side.{Library}

-- an object's definition, or room in the made file
abbrev pub is_bound_here : Bound → Bool
is_bound_here (bounds.Object object row) = true
is_bound_here bounds.Common = true
is_bound_here bounds.Provided = false
is_bound_here (bounds.Library library) = false
is_bound_here bounds.Import = false
is_bound_here bounds.Zero = false

abbrev pub is_offered_by : Bound → ℕ → Bool
is_offered_by bound visibility = is_bound_here bound && is_visible visibility

-- a name that is offered is exported
abbrev pub is_shown : LinkOptions → List Library → List ℕ → Bool
is_shown options libraries name =
    is_shared options.kind || options.export_dynamic || list_any (is_spoken_of name) libraries

abbrev pub row_bound : LinkOptions → List Library → List ℕ → Binding → List Mention → NameRow
row_bound options libraries name binding mentions = record {
  name = name;
  bound = bound_by binding mentions;
  class = class_by binding mentions;
  weak_only = are_weak mentions;
  visibility = strictest mentions;
  exported = is_exported options libraries name binding (strictest mentions);
  preemptible = is_preemptible options binding (strictest mentions);
}

-- the row of a name that the link provides, or doesn't, and that has these mentions
abbrev pub row_by : LinkOptions → List Library → Bool → List ℕ → List Mention → NameRow
row_by options libraries provided name mentions =
    row_bound options libraries name (binding_of (λ _. provided) libraries name mentions) mentions
