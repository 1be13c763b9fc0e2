-- What holds of each pattern and each merge.
use Rattle.std.specs.Prelude.{◌≡◌, ◌↔◌, ℕ, List, [], ◌∷◌, Ok, Err}
use Rattle.std.specs.List.Sorted.{IsPermutation}
use Rattle.ifs_interface.specs.Interface.{InterfaceRecord, IsInterface}
use Rattle.ifs_edit.specs.declared.cause.GlobCause.TheVariants.{BadGlob}
use Rattle.ifs_edit.specs.Pattern.{BrokenAt}
use Rattle.ifs_edit.specs.Parsed.{glob_of}
use Rattle.ifs_edit.specs.Read.{IsRead}
use Rattle.ifs_edit.specs.Merged.{merged}

-- each pattern is read as what it is
abbrev pub PatternsAreRead : Type 0
PatternsAreRead = (pattern : List ℕ) → IsRead pattern (glob_of pattern)

-- a broken element is refused just at the first
abbrev pub BrokenAreRefused : Type 0
BrokenAreRefused =
    (pattern : List ℕ) (at : ℕ) → (glob_of pattern ≡ Err (BadGlob at)) ↔ BrokenAt pattern at

-- where the inputs are an interface together, they are the same one in any order; refusals do depend on it
abbrev pub MergesInAnyOrder : Type 0
MergesInAnyOrder =
    (xs ys : List InterfaceRecord) (i : InterfaceRecord) → IsPermutation xs ys → merged xs ≡ Ok i → merged ys ≡ Ok i

-- an interface alone is merged as it is
abbrev pub MergesAlone : Type 0
MergesAlone = (i : InterfaceRecord) → IsInterface i → merged (i ∷ []) ≡ Ok i
