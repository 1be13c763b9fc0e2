-- What the reading of a pattern answers.
use Rattle.std.specs.Prelude.{ℕ, List, Result, Ok, Err}
use Rattle.ifs_edit.specs.declared.element.Element.{Element}
use Rattle.ifs_edit.specs.declared.cause.GlobCause.{GlobCause}
use Rattle.ifs_edit.specs.declared.cause.GlobCause.TheVariants.{BadGlob}
use Rattle.ifs_edit.specs.Elements.{elements_of}

abbrev pub caused : Result (List Element) ℕ → Result (List Element) GlobCause
caused (Ok elements) = Ok elements
caused (Err at) = Err (BadGlob at)

-- the pattern that bytes write, or its first broken element
abbrev pub glob_of : List ℕ → Result (List Element) GlobCause
glob_of pattern = caused (elements_of pattern)
