-- Which names the made file shows to others, and which libraries it asks for.
use Rattle.std.specs.Prelude.{ℕ, ◌==◌, Bool, true, false, not, ◌&&◌, ◌||◌, List, map, filter, is_some}
use Rattle.std.specs.List.{enumerate_from, list_any}
use Rattle.ifs_interface.specs.Facts.{wanted_of}
use Rattle.ifs_interface.specs.Triple.{same_name}
use Rattle.link_core.specs.declared.constants.TheConstants.{STV_DEFAULT, STV_PROTECTED}
use Rattle.link_core.specs.declared.options.LinkOptions.{LinkOptions}
use Rattle.link_core.specs.declared.options.OutKind.{OutKind}
use Rattle.link_core.specs.declared.options.OutKind.TheVariants.{Exec, Pie, Shared}
use Rattle.link_core.specs.declared.resolution.Bound.{Bound}
use Rattle.link_core.specs.declared.resolution.Bound.TheVariants as bounds
use Rattle.link_core.specs.declared.resolution.NameRow.{NameRow}
use Rattle.link_core.specs.Binding.{Binding, Defined, Allotted, Provided, Taken, Unbound}
use Rattle.link_core.specs.Lists.{once}
use Rattle.link_core.specs.Side.{Library}

abbrev pub is_shared : OutKind → Bool
is_shared Exec = false
is_shared Pie = false
is_shared Shared = true

-- an object's definition, or room in the made file
abbrev pub is_own : Binding → Bool
is_own (Defined m) = true
is_own Allotted = true
is_own Provided = false
is_own (Taken library fact) = false
is_own Unbound = false

-- other files may see it
abbrev pub is_visible : ℕ → Bool
is_visible visibility = visibility == STV_DEFAULT || visibility == STV_PROTECTED

-- the name is the made file's own, and others may see it
abbrev pub is_offered : Binding → ℕ → Bool
is_offered binding visibility = is_own binding && is_visible visibility

-- a library defines or wants the name
unfoldable pub is_spoken_of : List ℕ → Library → Bool
is_spoken_of name library = is_some (library.facts.fact_of name) || is_some (wanted_of library.facts name)

-- a shared library exports all that it offers; a program what it is told to, or what a library speaks of
unfoldable pub is_exported : LinkOptions → List Library → List ℕ → Binding → ℕ → Bool
is_exported options libraries name binding visibility =
    is_offered binding visibility
    && (is_shared options.kind || options.export_dynamic || list_any (is_spoken_of name) libraries)

-- a default name of a shared library gives way to another file's when it is loaded
unfoldable pub is_preemptible : LinkOptions → Binding → ℕ → Bool
is_preemptible options binding visibility =
    is_offered binding visibility && is_shared options.kind && visibility == STV_DEFAULT

-- ---- needed libraries

abbrev pub is_from : ℕ → Bound → Bool
is_from library (bounds.Object object row) = false
is_from library bounds.Common = false
is_from library bounds.Provided = false
is_from library (bounds.Library other) = other == library
is_from library bounds.Import = false
is_from library bounds.Zero = false

-- a name that isn't wanted weakly alone is bound to the library
abbrev pub is_used : List NameRow → ℕ × Library → Bool
is_used names library = list_any (λ row. is_from library.0 row.bound && not row.weak_only) names

-- the names of the libraries that are asked for, in order, each once: of all, or of those that are used
unfoldable pub needed_names : LinkOptions → List Library → List NameRow → List (List ℕ)
needed_names options libraries names =
    once same_name
    (map (λ library. library.1.name)
    (filter (λ library. not options.as_needed || is_used names library) (enumerate_from 0 libraries)))
