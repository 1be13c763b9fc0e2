-- Names that libraries want in vain.
use Rattle.std.specs.Prelude.{ℕ, Bool, ◌||◌, if◌then◌else◌, List, Option, None, option_map}
use Rattle.std.specs.List.{enumerate_from, list_all}
use Rattle.ifs_interface.specs.Facts.{Facts}
use Rattle.link_core.specs.declared.options.LinkOptions.{LinkOptions}
use Rattle.link_core.specs.declared.refusal.LinkRefusal.{LinkRefusal}
use Rattle.link_core.specs.declared.refusal.LinkRefusal.TheVariants as refusals
use Rattle.link_core.specs.Exports.{is_shared}
use Rattle.link_core.specs.Lists.{first_some}
use Rattle.link_core.specs.Resolution.{is_soname}
use Rattle.link_core.specs.Side.{Library}
use Rattle.link_wants.specs.declared.wants.Missing.{Missing}
use Rattle.link_wants.specs.Least.{missing_wanted}

-- the first name that a library wants in vain, where all libraries that it needs are given
abbrev pub missing_in : (List ℕ → Bool) → List Library → Facts → Option (List ℕ)
missing_in missing libraries facts =
    if list_all (is_soname libraries) facts.needed then first_some (missing_wanted missing) facts.wanted else None

abbrev pub undefined_with : (List ℕ → Bool) → List Library → ℕ × Library → Option LinkRefusal
undefined_with missing libraries library =
    option_map (λ name. refusals.LibraryUndefined name library.0) (missing_in missing libraries library.1.facts)

abbrev pub undefined_by : (List ℕ → Bool) → LinkOptions → List Library → Option LinkRefusal
undefined_by missing options libraries =
    if is_shared options.kind || options.allow_shlib_undefined then None
    else first_some (undefined_with missing libraries) (enumerate_from 0 libraries)

abbrev pub refused : Missing → LinkRefusal
refused missing = refusals.LibraryUndefined missing.name.now missing.library
