-- What is looked at in all words together: how many paths and values there are, and options that are needed.
use Rattle.std.specs.Prelude.{ℕ, Bool, true, false, nat_le, List, [], ◌∷◌, ◌++◌, length, Option, Some, None, Result, Ok, Err, if◌then◌else◌}
use Rattle.ifs_bytes.specs.Outcome.{◌>>=◌, check}
use Rattle.ifs_words.specs.declared.cause.WordCause.{WordCause}
use Rattle.ifs_words.specs.declared.cause.WordCause.TheVariants.{NoInput, TooManyInputs, MissingOption}
use Rattle.ifs_words.specs.declared.given.Given.{Given}
use Rattle.ifs_words.specs.declared.settings.Setting.{Setting}
use Rattle.ifs_words.specs.Reading.{is_of, value_of}
use Rattle.ifs_words.specs.Settings.{name_of}

-- ---- how many there are

abbrev pub at_most : ℕ → List (List ℕ) → Result (Unit {0}) WordCause
at_most most values = check (nat_le (length values) most) (TooManyInputs (length values))

abbrev pub is_given : List (List ℕ) → Bool
is_given [] = false
is_given (p ∷ ps) = true

-- a path at least, and not too many
unfoldable pub paths_fit : ℕ → List (List ℕ) → Result (Unit {0}) WordCause
paths_fit most paths = do
  _ ← check (is_given paths) NoInput
  at_most most paths

-- ---- options that may repeat, and options that are needed

abbrev pub value_if : Setting → Given → List (List ℕ)
value_if setting given = if is_of setting given then given.value ∷ [] else []

-- the values that an option was given, in order
abbrev pub values_of : Setting → List Given → List (List ℕ)
values_of setting [] = []
values_of setting (g ∷ gs) = value_if setting g ++ values_of setting gs

abbrev pub needed_in : {A : Type 0} → Setting → Option A → Result A WordCause
needed_in setting (Some value) = Ok value
needed_in setting None = Err (MissingOption (name_of setting))

-- the value of an option that has to be given
abbrev pub needed : Setting → List Given → Result (List ℕ) WordCause
needed setting given = needed_in setting (value_of setting given)
