-- What the words behind `stub` ask for.
use Rattle.std.specs.Prelude.{ℕ, Bool, true, false, not, ◌&&◌, List, [], ◌∷◌, ◌++◌, Option, Some, None, option_and_then, Result, Ok, Err, if◌then◌else◌}
use Rattle.std.specs.Str.{bytes_eq}
use Rattle.ifs_bytes.specs.Outcome.{◌>>=◌, check}
use Rattle.ifs_interface.specs.declared.target.Target.{Target}
use Rattle.ifs_interface.specs.Arch.{machine_named}
use Rattle.ifs_edit.specs.declared.adjusted.AdjustOptions.{AdjustOptions}
use Rattle.ifs_edit.specs.declared.cause.GlobCause.{GlobCause}
use Rattle.ifs_edit.specs.declared.element.Element.{Element}
use Rattle.ifs_edit.specs.declared.strip.Strip.{Strip}
use Rattle.ifs_edit.specs.Parsed.{glob_of}
use Rattle.ifs_words.specs.declared.cause.WordCause.{WordCause}
use Rattle.ifs_words.specs.declared.cause.WordCause.TheVariants.{Conflict}
use Rattle.ifs_words.specs.declared.command.StubWords.{StubWords}
use Rattle.ifs_words.specs.declared.given.Given.{Given}
use Rattle.ifs_words.specs.declared.settings.Setting.{Setting}
use Rattle.ifs_words.specs.declared.settings.Setting.TheVariants as settings
use Rattle.ifs_words.specs.Reading.{has, is_of, nothing, read_from, value_of}
use Rattle.ifs_words.specs.Settings.{name_of, stub_settings}
use Rattle.ifs_words.specs.Together.{paths_fit}
use Rattle.ifs_words.specs.Values.{format_named, order_named, width_named}

-- ---- what doesn't go together

abbrev pub conflict : Setting → Setting → WordCause
conflict one other = Conflict (name_of one) (name_of other)

-- not both are given
abbrev pub never_both : Setting → Setting → List Given → Result (Unit {0}) WordCause
never_both one other given = check (not (has one given && has other given)) (conflict one other)

abbrev pub is_same_value : Option (List ℕ) → Option (List ℕ) → Bool
is_same_value (Some one) (Some other) = bytes_eq one other
is_same_value (Some one) None = false
is_same_value None other = false

-- their values differ, where both are given
abbrev pub never_alike : Setting → Setting → List Given → Result (Unit {0}) WordCause
never_alike one other given = check (not (is_same_value (value_of one given) (value_of other given))) (conflict one other)

unfoldable pub no_conflict : List Given → Result (Unit {0}) WordCause
no_conflict given = do
  _ ← never_both settings.Target settings.Arch given
  _ ← never_both settings.Target settings.BitWidth given
  _ ← never_both settings.Target settings.Endianness given
  never_alike settings.OutputIfs settings.OutputElf given

-- ---- the values

unfoldable pub given_target : List Given → Target
given_target given = record {
  triple = value_of settings.Target given;
  machine = option_and_then machine_named (value_of settings.Arch given);
  order = option_and_then order_named (value_of settings.Endianness given);
  width = option_and_then width_named (value_of settings.BitWidth given);
}

abbrev pub pattern_in : Result (List Element) GlobCause → List (List Element)
pattern_in (Ok pattern) = pattern ∷ []
pattern_in (Err cause) = []

abbrev pub pattern_of : Given → List (List Element)
pattern_of given = if is_of settings.Exclude given then pattern_in (glob_of given.value) else []

-- the patterns of every `--exclude`, in order
abbrev pub excluded : List Given → List (List Element)
excluded [] = []
excluded (g ∷ gs) = pattern_of g ++ excluded gs

unfoldable pub adjustment : List Given → AdjustOptions
adjustment given = record {
  given = given_target given;
  soname = value_of settings.Soname given;
  exclude = excluded given;
  strip_undefined = has settings.StripUndefined given;
  strip_needed = has settings.StripNeeded given;
  strip_size = has settings.StripSize given;
}

unfoldable pub stripping : List Given → Strip
stripping given = record {
  arch = has settings.StripIfsArch given;
  width = has settings.StripIfsBitWidth given;
  order = has settings.StripIfsEndianness given;
  target = has settings.StripIfsTarget given;
}

unfoldable pub stub_words : List Given → List (List ℕ) → StubWords
stub_words given paths = record {
  inputs = paths;
  input_format = option_and_then format_named (value_of settings.InputFormat given);
  output_ifs = value_of settings.OutputIfs given;
  output_elf = value_of settings.OutputElf given;
  adjust = adjustment given;
  strip = stripping given;
  write_if_changed = has settings.WriteIfChanged given;
}

-- the words are read one by one, then looked at together
unfoldable pub stub_of : List (List ℕ) → Result StubWords WordCause
stub_of words = do
  read ← read_from stub_settings words nothing
  _ ← no_conflict read.given
  _ ← paths_fit 4096 read.paths
  Ok (stub_words read.given read.paths)
