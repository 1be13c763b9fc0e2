-- What the words behind `tbd` ask for.
use Rattle.std.specs.Prelude.{ℕ, List, [], ◌∷◌, length, codes, option_and_then, Result, Ok, Err}
use Rattle.std.specs.Option.{unwrap_or}
use Rattle.ifs_bytes.specs.Outcome.{◌>>=◌}
use Rattle.ifs_words.specs.declared.cause.WordCause.{WordCause}
use Rattle.ifs_words.specs.declared.cause.WordCause.TheVariants.{NoInput, TooManyInputs}
use Rattle.ifs_words.specs.declared.given.Given.{Given}
use Rattle.ifs_words.specs.declared.settings.Setting.TheVariants as settings
use Rattle.ifs_words.specs.declared.tbd.TbdVersion.{TbdVersion}
use Rattle.ifs_words.specs.declared.tbd.TbdWords.{TbdWords}
use Rattle.ifs_words.specs.Reading.{has, nothing, read_from, value_of}
use Rattle.ifs_words.specs.Settings.{tbd_settings}
use Rattle.ifs_words.specs.Together.{needed_in}
use Rattle.ifs_words.specs.Values.{version_named}

-- the one path
abbrev pub only_path : List (List ℕ) → Result (List ℕ) WordCause
only_path [] = Err NoInput
only_path (path ∷ []) = Ok path
only_path (path ∷ other ∷ more) = Err (TooManyInputs (length (path ∷ other ∷ more)))

-- the version that has to be given; a value that was read is one of the two
abbrev pub asked_version : List Given → Result TbdVersion WordCause
asked_version given = needed_in settings.To (option_and_then version_named (value_of settings.To given))

unfoldable pub tbd_words : List Given → List ℕ → TbdVersion → TbdWords
tbd_words given input version = record {
  input = input;
  version = version;
  output = unwrap_or (value_of settings.Output given) (codes "-");
  write_if_changed = has settings.WriteIfChanged given;
}

-- the words are read one by one, then looked at together
unfoldable pub tbd_of : List (List ℕ) → Result TbdWords WordCause
tbd_of words = do
  read ← read_from tbd_settings words nothing
  input ← only_path read.paths
  version ← asked_version read.given
  Ok (tbd_words read.given input version)
