-- What the reading of a pattern answers.
use Rattle.std.specs.Prelude.{◌≡◌, ◌↔◌, ⊤, ℕ, true, List, Result, Ok, Err}
use Rattle.ifs_edit.specs.declared.element.Element.{Element}
use Rattle.ifs_edit.specs.declared.cause.GlobCause.{GlobCause}
use Rattle.ifs_edit.specs.declared.cause.GlobCause.TheVariants.{BadGlob, Memory}
use Rattle.ifs_edit.specs.Glob.{matches}
use Rattle.ifs_edit.specs.Pattern.{Matches, BrokenAt}

-- the elements match just the names that the pattern matches
abbrev pub StandFor : List Element → List ℕ → Type 0
StandFor elements pattern = (name : List ℕ) → (matches elements name ≡ true) ↔ Matches pattern name

abbrev pub NoneBroken : List ℕ → Type 0
NoneBroken pattern = (at : ℕ) → BrokenAt pattern at → ⊥

-- elements that stand for the pattern, none of which is broken; or the first that is; or that memory ran out
abbrev pub IsRead : List ℕ → Result (List Element) GlobCause → Type 0
IsRead pattern (Ok elements) = NoneBroken pattern × StandFor elements pattern
IsRead pattern (Err (BadGlob at)) = BrokenAt pattern at
IsRead pattern (Err Memory) = ⊤
