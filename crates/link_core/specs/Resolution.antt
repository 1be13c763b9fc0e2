-- What the names of a link stand for, or the first refusal.
use Rattle.std.specs.Prelude.{◌≡◌, ℕ, ◌==◌, Bool, true, false, not, ◌&&◌, ◌||◌, if◌then◌else◌, List, [], ◌∷◌, map, filter, find, Option, Some, None, option_map, is_some, Result, Ok}
use Rattle.std.specs.List.{enumerate_from, list_all, list_any}
use Rattle.std.specs.Option.{option_map_or, option_or}
use Rattle.ifs_bytes.specs.Outcome.{◌>>=◌}
use Rattle.ifs_bytes.specs.declared.form.Order.{Order}
use Rattle.ifs_bytes.specs.declared.form.Order.TheVariants.{Little, Big}
use Rattle.ifs_bytes.specs.declared.form.Width.{Width}
use Rattle.ifs_bytes.specs.declared.form.Width.TheVariants.{W32, W64}
use Rattle.ifs_interface.specs.declared.fact.Fact.{Fact}
use Rattle.ifs_interface.specs.declared.fact.Fact.TheVariants as facts
use Rattle.ifs_interface.specs.declared.target.MachineFact.{MachineFact}
use Rattle.ifs_interface.specs.Facts.{fact_of_type}
use Rattle.ifs_interface.specs.Triple.{same_name}
use Rattle.elf_object.specs.Record.{ObjectRecord}
use Rattle.link_core.specs.declared.constants.TheConstants.{STT_TLS, STV_DEFAULT, EM_X86_64, EM_AARCH64}
use Rattle.link_core.specs.declared.options.LinkOptions.{LinkOptions}
use Rattle.link_core.specs.declared.refusal.LinkRefusal.{LinkRefusal}
use Rattle.link_core.specs.declared.refusal.LinkRefusal.TheVariants as refusals
use Rattle.link_core.specs.declared.refusal.Place.TheVariants as places
use Rattle.link_core.specs.declared.resolution.Bound.{Bound}
use Rattle.link_core.specs.declared.resolution.Bound.TheVariants as bounds
use Rattle.link_core.specs.declared.resolution.NameRow.{NameRow}
use Rattle.link_core.specs.declared.resolution.Resolution.{Resolution}
use Rattle.link_core.specs.declared.resolution.Member.{Member}
use Rattle.link_core.specs.Binding.{Binding, Defined, Allotted, Provided, Taken, Unbound, binding_of}
use Rattle.link_core.specs.Exports.{is_shared, is_offered, is_exported, is_preemptible, needed_names}
use Rattle.link_core.specs.Kept.{dropped_sections}
use Rattle.link_core.specs.Lists.{first_some, unrefused}
use Rattle.link_core.specs.Mentions.{Mention, mentions_of, naming, mentioned_names, is_strong_definition, is_strong_want, are_weak, strictest}
use Rattle.link_core.specs.OutputNames.{Output, kept_pieces, outputs_of}
use Rattle.link_core.specs.Provided.{is_provided}
use Rattle.link_core.specs.Side.{Library, Side, Held, Versioned, Refused, libraries_of}

-- ---- all that names are looked up in

pub record Scope : Type 0 where
  pub options : LinkOptions
  pub libraries : List Library
  pub mentions : List Mention
  pub outputs : List Output

abbrev pub scope_without : List Member → LinkOptions → List ObjectRecord → List Side → Scope
scope_without dropped options objects sides = record {
  options = options;
  libraries = libraries_of sides;
  mentions = mentions_of dropped objects;
  outputs = outputs_of (kept_pieces dropped objects);
}

unfoldable pub scope_of : LinkOptions → List ObjectRecord → List Side → Scope
scope_of options objects sides = scope_without (dropped_sections objects) options objects sides

abbrev pub mentions_in : Scope → List ℕ → List Mention
mentions_in scope name = naming name scope.mentions

abbrev pub visibility_in : Scope → List ℕ → ℕ
visibility_in scope name = strictest (mentions_in scope name)

unfoldable pub binding_in : Scope → List ℕ → Binding
binding_in scope name = binding_of (is_provided scope.outputs) scope.libraries name (mentions_in scope name)

-- ---- the row of a name

-- a weak name that nothing defines stands for 0, and any other has to be found when the file is loaded
abbrev pub bound_by : Binding → List Mention → Bound
bound_by (Defined m) mentions = bounds.Object m.object m.row
bound_by Allotted mentions = bounds.Common
bound_by Provided mentions = bounds.Provided
bound_by (Taken library fact) mentions = bounds.Library library
bound_by Unbound mentions = if are_weak mentions then bounds.Zero else bounds.Import

-- the first mention says that the name is thread-local
abbrev pub is_first_threaded : List Mention → Bool
is_first_threaded [] = false
is_first_threaded (m ∷ ms) = m.symbol.kind == STT_TLS

-- a defined name is what its definition says, room is data, and a name from a library what the library says
abbrev pub class_by : Binding → List Mention → Fact
class_by (Defined m) mentions = fact_of_type m.symbol.kind
class_by Allotted mentions = facts.Object
class_by Provided mentions = facts.NoType
class_by (Taken library fact) mentions = fact
class_by Unbound mentions =
    if not (are_weak mentions) && is_first_threaded mentions then facts.Tls else facts.NoType

abbrev pub row_by : Scope → List ℕ → Binding → List Mention → ℕ → NameRow
row_by scope name binding mentions visibility = record {
  name = name;
  bound = bound_by binding mentions;
  class = class_by binding mentions;
  weak_only = are_weak mentions;
  visibility = visibility;
  exported = is_exported scope.options scope.libraries name binding visibility;
  preemptible = is_preemptible scope.options binding visibility;
}

unfoldable pub row_of : Scope → List ℕ → NameRow
row_of scope name = row_by scope name (binding_in scope name) (mentions_in scope name) (visibility_in scope name)

-- ---- refusals of inputs

abbrev pub versioned_at : ℕ × Side → Option LinkRefusal
versioned_at (i, Held library) = None
versioned_at (i, Versioned) = Some (refusals.Versioned i)
versioned_at (i, Refused cause) = None

-- the first library that defines symbol versions
unfoldable pub versioned_side : List Side → Option LinkRefusal
versioned_side sides = first_some versioned_at (enumerate_from 0 sides)

abbrev pub is_little : Order → Bool
is_little Little = true
is_little Big = false

abbrev pub is_wide : Width → Bool
is_wide W32 = false
is_wide W64 = true

-- what isn't known of a library's machine is no mismatch
abbrev pub is_for : ℕ → MachineFact → Bool
is_for machine fact =
    option_map_or (λ m. m == machine) fact.machine true && option_map_or is_little fact.order true
    && option_map_or is_wide fact.width true

-- a machine that is linked for
abbrev pub is_linked_for : ℕ → Bool
is_linked_for machine = machine == EM_X86_64 || machine == EM_AARCH64

abbrev pub other_object : ℕ → ℕ × ObjectRecord → Option LinkRefusal
other_object machine object =
    if is_linked_for object.1.machine && object.1.machine == machine then None
    else Some (refusals.MachineMismatch (places.Object object.0))

abbrev pub other_library : ℕ → ℕ × Library → Option LinkRefusal
other_library machine library =
    if is_for machine library.1.facts.machine then None
    else Some (refusals.MachineMismatch (places.Library library.0))

-- the first object, then the first library, that isn't for the machine of the first object
unfoldable pub other_machine : ℕ → List ObjectRecord → List Library → Option LinkRefusal
other_machine machine objects libraries =
    option_or (first_some (other_object machine) (enumerate_from 0 objects))
    (first_some (other_library machine) (enumerate_from 0 libraries))

-- the machine of a link is that of its first object
abbrev pub machine_of : List ObjectRecord → ℕ
machine_of [] = EM_X86_64
machine_of (o ∷ os) = o.machine

-- ---- refusals of names

abbrev pub defined_twice : List ℕ → List Mention → Option LinkRefusal
defined_twice name [] = None
defined_twice name (one ∷ []) = None
defined_twice name (one ∷ other ∷ others) = Some (refusals.Duplicate name one.object other.object)

-- two strong definitions
unfoldable pub duplicate_in : Scope → List ℕ → Option LinkRefusal
duplicate_in scope name = defined_twice name (filter is_strong_definition (mentions_in scope name))

abbrev pub is_unbound : Binding → Bool
is_unbound (Defined m) = false
is_unbound Allotted = false
is_unbound Provided = false
is_unbound (Taken library fact) = false
is_unbound Unbound = true

-- the first mention that wants a name for which there is nothing
unfoldable pub unmet_want : Scope → List ℕ → Option Mention
unmet_want scope name =
    if is_unbound (binding_in scope name) then find is_strong_want (mentions_in scope name) else None

-- a name that no library may define
unfoldable pub hidden_in : Scope → List ℕ → Option LinkRefusal
hidden_in scope name =
    if visibility_in scope name == STV_DEFAULT then None
    else option_map (λ m. refusals.HiddenUndefined name) (unmet_want scope name)

-- a shared library leaves it to the program
unfoldable pub undefined_in : Scope → List ℕ → Option LinkRefusal
undefined_in scope name =
    if is_shared scope.options.kind then None
    else option_map (λ m. refusals.Undefined name m.object) (unmet_want scope name)

-- ---- refusals of what libraries want

-- some library has this soname
abbrev pub is_soname : List Library → List ℕ → Bool
is_soname libraries name = list_any (λ l. option_map_or (same_name name) l.facts.soname false) libraries

abbrev pub is_defined_by_one : List Library → List ℕ → Bool
is_defined_by_one libraries name = list_any (λ l. is_some (l.facts.fact_of name)) libraries

-- an object's definition or room that a library may use
unfoldable pub is_offered_in : Scope → List ℕ → Bool
is_offered_in scope name = is_offered (binding_in scope name) (visibility_in scope name)

-- nothing in the link is there for a name that a library wants
unfoldable pub is_missing : Scope → List ℕ → Bool
is_missing scope name =
    not (is_defined_by_one scope.libraries name) && not (is_provided scope.outputs name) && not (is_offered_in scope name)

abbrev pub missing_want : Scope → ℕ → List ℕ × Bool → Option LinkRefusal
missing_want scope library wanted =
    if wanted.1 && is_missing scope wanted.0 then Some (refusals.LibraryUndefined wanted.0 library) else None

-- a library all of whose needed libraries are given wants a name strongly, and nothing is there for it
unfoldable pub library_undefined_in : Scope → ℕ × Library → Option LinkRefusal
library_undefined_in scope library =
    if list_all (is_soname scope.libraries) library.1.facts.needed
    then first_some (missing_want scope library.0) library.1.facts.wanted
    else None

unfoldable pub library_undefined : Scope → Option LinkRefusal
library_undefined scope =
    if is_shared scope.options.kind || scope.options.allow_shlib_undefined then None
    else first_some (library_undefined_in scope) (enumerate_from 0 scope.libraries)

-- ---- the entry

abbrev pub is_defined : Binding → Bool
is_defined (Defined m) = true
is_defined Allotted = false
is_defined Provided = false
is_defined (Taken library fact) = false
is_defined Unbound = false

-- a program starts at an object's definition
unfoldable pub no_entry : Scope → Option LinkRefusal
no_entry scope =
    if is_shared scope.options.kind || is_defined (binding_in scope scope.options.entry_name) then None
    else Some (refusals.NoEntry scope.options.entry_name)

-- ---- the resolution

unfoldable pub names_of : Scope → List NameRow
names_of scope = map (row_of scope) (mentioned_names scope.mentions)

abbrev pub resolved : Scope → List Member → List NameRow → Resolution
resolved scope dropped names = record {
  names = names;
  needed = needed_names scope.options scope.libraries names;
  dropped = dropped;
}

-- the names of a scope, or the first refusal: each cause is looked for in all names, in byte order, before the next
unfoldable pub resolution_in : Scope → List Member → Result Resolution LinkRefusal
resolution_in scope dropped = do
  _ ← unrefused (first_some (duplicate_in scope) (mentioned_names scope.mentions))
  _ ← unrefused (first_some (hidden_in scope) (mentioned_names scope.mentions))
  _ ← unrefused (first_some (undefined_in scope) (mentioned_names scope.mentions))
  _ ← unrefused (library_undefined scope)
  _ ← unrefused (no_entry scope)
  Ok (resolved scope dropped (names_of scope))

-- No library may be one that can't be read: a link refuses these before.
unfoldable pub resolution_of : LinkOptions → List ObjectRecord → List Side → Result Resolution LinkRefusal
resolution_of options objects sides = do
  _ ← unrefused (versioned_side sides)
  _ ← unrefused (other_machine (machine_of objects) objects (libraries_of sides))
  resolution_in (scope_of options objects sides) (dropped_sections objects)

-- what the names of these objects stand for, against libraries that may be any
abbrev pub IsResolved : LinkOptions → List ObjectRecord → Resolution → Type 0
IsResolved options objects r = (sides : List Side) × (resolution_of options objects sides ≡ Ok r)
