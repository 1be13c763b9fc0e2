-- Small links, computed from the definitions.
use Rattle.std.proofs.Common.{◌≡◌, ℕ, Bool, true, false, List, [], ◌∷◌, ◌++◌, map, refl}
use Rattle.ifs_bytes.specs.Outcome.{◌>>=◌}
use Rattle.std.specs.Prelude.{Option, Some, None, Result, Ok, Err, codes, negsuc}
use Rattle.ifs_bytes.specs.declared.form.Order.TheVariants.{Little}
use Rattle.ifs_bytes.specs.declared.form.Width.TheVariants.{W64}
use Rattle.ifs_interface.specs.declared.row.DynRow.{DynRow}
use Rattle.ifs_interface.specs.Facts.{defined_in}
use Rattle.elf_object.specs.declared.section.ObjSection.{ObjSection}
use Rattle.elf_object.specs.declared.symbol.ObjPlace.{ObjPlace}
use Rattle.elf_object.specs.declared.symbol.ObjPlace.TheVariants as at
use Rattle.elf_object.specs.declared.symbol.ObjSymbol.{ObjSymbol}
use Rattle.elf_object.specs.Record.{ObjectRecord}
use Rattle.elf_object.specs.Sections.{is_loadable}
use Rattle.link_machine.specs.X86.{x86_rules}
use Rattle.link_core.specs.declared.options.LinkOptions.{LinkOptions}
use Rattle.link_core.specs.declared.options.OutKind.TheVariants.{Exec}
use Rattle.link_core.specs.declared.plan.Plan.{Plan}
use Rattle.link_core.specs.declared.plan.Slot.TheVariants as slots
use Rattle.link_core.specs.declared.plan.SymbolId.TheVariants as ids
use Rattle.link_core.specs.declared.refusal.LinkRefusal.{LinkRefusal}
use Rattle.link_core.specs.declared.refusal.LinkRefusal.TheVariants as refusals
use Rattle.link_core.specs.declared.resolution.Bound.{Bound}
use Rattle.link_core.specs.declared.resolution.Bound.TheVariants as bounds
use Rattle.link_core.specs.declared.resolution.Resolution.{Resolution}
use Rattle.link_core.specs.Kept.{is_dropped, dropped_sections, is_kept, kept_sections}
use Rattle.link_core.specs.Mentions.{mentions_of, mentioned_names, strictest}
use Rattle.link_core.specs.Binding.{binding_of, common_size, common_align}
use Rattle.link_core.specs.OutputNames.{joined_names, output_name, class_of_section, kept_pieces, outputs_of}
use Rattle.link_core.specs.Provided.{always_provided, is_identifier, bounded_name, is_provided}
use Rattle.link_core.specs.Exports.{is_spoken_of, is_exported, is_preemptible, needed_names}
use Rattle.link_core.specs.Resolution.{scope_of, binding_in, row_of, versioned_side, other_machine, duplicate_in, unmet_want, hidden_in, undefined_in, is_offered_in, is_missing, library_undefined_in, library_undefined, no_entry, names_of, resolution_in, resolution_of}
use Rattle.link_core.specs.Need.{need_of, fits_class}
use Rattle.link_core.specs.Plan.{supported, needed_by, slots_of, entries_of, moves_of, plan_of}
use Rattle.link_core.specs.References.{uses_of, state_of_name, is_threaded_name, target_named, target_of}
use Rattle.link_core.specs.Side.{Side, Held, library_named}

-- ---- parts

abbrev options : LinkOptions
options = record { kind = Exec; entry_name = codes "_start"; soname = None; runpath = None; interp = None; export_dynamic = false; allow_shlib_undefined = false; as_needed = false; bind_now = false }

abbrev symbol : List ℕ → ℕ → ℕ → ℕ → ObjPlace → ObjSymbol
symbol name binding kind visibility place = record { name = name; binding = binding; kind = kind; visibility = visibility; place = place; value = 0; size = 0 }

abbrev common : ℕ → ℕ → ObjSymbol
common size align = record { name = codes "c"; binding = 1; kind = 1; visibility = 0; place = at.Common; value = align; size = size }

abbrev no_row : ObjSymbol
no_row = symbol [] 0 0 0 at.Undefined

abbrev section : List ℕ → ℕ → ObjSection
section name size = record { name = name; kind = 1; flags = 6; offset = 64; size = size; align = 16 }

abbrev sections : List ObjSection
sections = record { name = []; kind = 0; flags = 0; offset = 0; size = 0; align = 0 } ∷ section (codes ".text") 13 ∷ section (codes ".text.g") 1 ∷ []

abbrev start : ObjSymbol
start = symbol (codes "_start") 1 2 0 (at.In 1)

abbrev wanted : List ℕ → ObjSymbol
wanted name = symbol name 1 0 0 at.Undefined

abbrev object : List ObjSymbol → ObjectRecord
object symbols = record { machine = 62; bytes = []; sections = sections; symbols = no_row ∷ symbols; references = []; groups = [] }

-- an object with a group of its second section, in which `g` is
abbrev grouped : List ObjSymbol → ObjectRecord
grouped symbols = record (object (symbols ++ symbol (codes "g") 1 2 0 (at.In 2) ∷ [])) { groups = record { signature = codes "g"; comdat = true; members = 2 ∷ [] } ∷ [] }

-- an object that calls `foo`, and loads `bar` by a reference of a type
abbrev caller : ℕ → ℕ → ObjectRecord
caller call load = record (object (start ∷ wanted (codes "foo") ∷ wanted (codes "bar") ∷ [])) {
  references = record { section = 1; index = 0; offset = 1; symbol = 2; kind = call; addend = negsuc 3 } ∷ record { section = 1; index = 1; offset = 8; symbol = 3; kind = load; addend = negsuc 3 } ∷ [];
}

-- a library of a function and of data, which may want a name
abbrev dyn : List ℕ → ℕ → ℕ → DynRow
dyn name kind size = record { name = name; binding = 1; kind = kind; shndx = 7; value = 0; size = size }

abbrev library : List (List ℕ) → List (List ℕ × Bool) → Side
library needed names = Held (library_named (codes "F") (record {
  machine = record { machine = Some 62; order = Some Little; width = Some W64 };
  soname = Some (codes "libfoo.so");
  needed = needed;
  wanted = names;
  fact_of = defined_in (dyn (codes "foo") 2 0 ∷ dyn (codes "bar") 1 42 ∷ []);
}))

abbrev foo_and_bar : List Side
foo_and_bar = library [] [] ∷ []

abbrev refused_with : {T : Type 0} → Result T LinkRefusal → Option LinkRefusal
refused_with (Ok r) = None
refused_with (Err refusal) = Some refusal

abbrev resolved : List ObjectRecord → List Side → Result Resolution LinkRefusal
resolved objects sides = resolution_of options objects sides

abbrev bound_rows : Result Resolution LinkRefusal → List Bound
bound_rows (Ok r) = map (λ row. row.bound) r.names
bound_rows (Err refusal) = []

abbrev bounds_of : List ObjectRecord → List Side → List Bound
bounds_of objects sides = bound_rows (resolved objects sides)

abbrev wants : List (List ℕ) → Option LinkRefusal
wants needed = refused_with (resolved (object (start ∷ []) ∷ []) (library needed ((codes "need_me", true) ∷ []) ∷ []))

-- ---- names

pub bound : (bounds_of (caller 4 42 ∷ []) foo_and_bar ≡ bounds.Object 0 1 ∷ bounds.Library 0 ∷ bounds.Library 0 ∷ [])
    × (bounds_of (object (start ∷ common 4 16 ∷ []) ∷ object (common 8 4 ∷ []) ∷ []) [] ≡ bounds.Object 0 1 ∷ bounds.Common ∷ [])
    × (bounds_of (grouped (start ∷ []) ∷ grouped [] ∷ []) [] ≡ bounds.Object 0 1 ∷ bounds.Object 0 2 ∷ [])
    × (bounds_of (object (start ∷ symbol (codes "w") 2 0 0 at.Undefined ∷ []) ∷ []) [] ≡ bounds.Object 0 1 ∷ bounds.Zero ∷ [])
    × (dropped_sections (grouped (start ∷ []) ∷ grouped [] ∷ []) ≡ record { object = 1; section = 2 } ∷ [])
    × (common_size (mentions_of [] (object (common 4 16 ∷ []) ∷ object (common 8 4 ∷ []) ∷ [])) ≡ 8)
    × (common_align (mentions_of [] (object (common 4 16 ∷ []) ∷ object (common 8 4 ∷ []) ∷ [])) ≡ 16)
unfolding resolution_of resolution_in scope_of dropped_sections is_dropped mentions_of is_kept is_loadable mentioned_names strictest binding_of kept_pieces kept_sections outputs_of output_name joined_names class_of_section is_provided always_provided bounded_name is_identifier is_spoken_of is_exported is_preemptible needed_names binding_in row_of versioned_side other_machine duplicate_in unmet_want hidden_in undefined_in is_offered_in is_missing library_undefined_in library_undefined no_entry names_of defined_in common_size common_align
bound = (refl, refl, refl, refl, refl, refl, refl)

pub refused : (refused_with (resolved (caller 4 42 ∷ []) []) ≡ Some (refusals.Undefined (codes "bar") 0))
    × (refused_with (resolved (caller 4 42 ∷ caller 4 42 ∷ []) foo_and_bar) ≡ Some (refusals.Duplicate (codes "_start") 0 1))
    × (refused_with (resolved (object (start ∷ symbol (codes "foo") 1 0 2 at.Undefined ∷ []) ∷ []) foo_and_bar) ≡ Some (refusals.HiddenUndefined (codes "foo")))
    × (refused_with (resolution_of (record options { entry_name = codes "go" }) (caller 4 42 ∷ []) foo_and_bar) ≡ Some (refusals.NoEntry (codes "go")))
    × (wants [] ≡ Some (refusals.LibraryUndefined (codes "need_me") 0))
    × (wants (codes "libx.so" ∷ []) ≡ None)
unfolding resolution_of resolution_in scope_of dropped_sections is_dropped mentions_of is_kept is_loadable mentioned_names strictest binding_of kept_pieces kept_sections outputs_of output_name joined_names class_of_section is_provided always_provided bounded_name is_identifier is_spoken_of is_exported is_preemptible needed_names binding_in row_of versioned_side other_machine duplicate_in unmet_want hidden_in undefined_in is_offered_in is_missing library_undefined_in library_undefined no_entry names_of defined_in common_size common_align
refused = (refl, refl, refl, refl, refl, refl)

-- ---- references

abbrev planned_for : ℕ → ℕ → Result Plan LinkRefusal
planned_for call load = resolved (caller call load ∷ []) foo_and_bar >>= (λ r. plan_of x86_rules options (caller call load ∷ []) r)

pub planned : (planned_for 4 42 ≡ Ok (record { got = record { symbol = ids.Name 1; slot = slots.Got } ∷ []; plt = 2 ∷ []; moves = []; imports = 1 ∷ 2 ∷ []; exports = [] }))
    × (refused_with (planned_for 4 2) ≡ Some (refusals.CopyRelocation (codes "bar") (record { object = 0; section = 1; index = 1 })))
    × (refused_with (planned_for 2 42) ≡ Some (refusals.CanonicalPlt (codes "foo") (record { object = 0; section = 1; index = 0 })))
unfolding resolution_of resolution_in scope_of dropped_sections is_dropped mentions_of is_kept is_loadable mentioned_names strictest binding_of kept_pieces kept_sections outputs_of output_name joined_names class_of_section is_provided always_provided bounded_name is_identifier is_spoken_of is_exported is_preemptible needed_names binding_in row_of versioned_side other_machine duplicate_in unmet_want hidden_in undefined_in is_offered_in is_missing library_undefined_in library_undefined no_entry names_of defined_in common_size common_align uses_of state_of_name is_threaded_name target_named target_of need_of fits_class supported needed_by slots_of entries_of moves_of plan_of
planned = (refl, refl, refl)
