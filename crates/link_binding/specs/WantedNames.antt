-- The names that libraries want, in byte order.
use Rattle.std.specs.Prelude.{◌≡◌, ℕ, Bool, List, is_some}
use Rattle.std.specs.List.{list_any}
use Rattle.std.specs.List.Sorted.{IsSortedByKey}
use Rattle.std.specs.Ordering.{nat_cmp}
use Rattle.std.specs.Cmp.Lexicographic.{slice_cmp}
use Rattle.ifs_interface.specs.declared.shared_lib.Wanted.{Wanted}
use Rattle.ifs_interface.specs.Facts.{wanted_of}
use Rattle.ifs_interface.specs.Triple.{same_name}
use Rattle.link_core.specs.Side.{Library}

-- one of the wanted names is this one
abbrev pub has_name : List ℕ → List Wanted → Bool
has_name name wanted = list_any (λ w. same_name w.name.now name) wanted

-- the library wants the name
abbrev pub wants : List ℕ → Library → Bool
wants name library = is_some (wanted_of library.facts name)

abbrev pub AreInNameOrder : List Wanted → Type 0
AreInNameOrder wanted = IsSortedByKey (λ w. w.name.now) (slice_cmp nat_cmp) wanted

-- these are the names that the libraries want, in byte order
pub record AreWantedBy (libraries : List Library) (wanted : List Wanted) : Type 0 where
  pub rising : AreInNameOrder wanted
  pub same_names : (name : List ℕ) → has_name name wanted ≡ list_any (wants name) libraries
