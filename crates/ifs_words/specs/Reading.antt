-- How words are read, one by one: which are options with their values, and which are paths; or the first cause.
use Rattle.std.specs.Prelude.{ℕ, ◌+◌, Bool, not, ◌||◌, ◌==◌, nat_eq, List, [], ◌∷◌, ◌++◌, take, drop, codes, position, Option, Some, None, option_map, Result, Ok, Err, if◌then◌else◌}
use Rattle.std.specs.List.{list_any, starts_with}
use Rattle.std.specs.Option.{unwrap_or}
use Rattle.std.specs.Str.{bytes_eq}
use Rattle.ifs_bytes.specs.Outcome.{◌>>=◌, check}
use Rattle.ifs_words.specs.declared.settings.Setting.{Setting}
use Rattle.ifs_words.specs.declared.settings.Form.{Form}
use Rattle.ifs_words.specs.declared.given.Given.{Given}
use Rattle.ifs_words.specs.declared.given.Next.{Next}
use Rattle.ifs_words.specs.declared.given.Next.TheVariants.{Anything, Value, Path}
use Rattle.ifs_words.specs.declared.read.Read.{Read}
use Rattle.ifs_words.specs.declared.cause.WordCause.{WordCause}
use Rattle.ifs_words.specs.declared.cause.WordCause.TheVariants.{UnknownOption, MissingValue, UnwantedValue, BadValue, Repeated}
use Rattle.ifs_words.specs.Settings.{row_of, name_of, setting_named}
use Rattle.ifs_words.specs.Values.{is_good}

-- ---- what was read so far: options and flags, paths, and what the next word is

abbrev pub nothing : Read
nothing = record { given = []; paths = []; next = Anything }

abbrev pub is_of : Setting → Given → Bool
is_of setting given = bytes_eq (name_of given.setting) (name_of setting)

-- an option or a flag was given
abbrev pub has : Setting → List Given → Bool
has setting given = list_any (is_of setting) given

-- the value that an option was given first
abbrev pub value_of : Setting → List Given → Option (List ℕ)
value_of setting [] = None
value_of setting (g ∷ gs) = if is_of setting g then Some g.value else value_of setting gs

-- ---- a word of each kind

abbrev pub with_path : List ℕ → Read → Read
with_path word read = record { given = read.given; paths = read.paths ++ word ∷ []; next = read.next }

abbrev pub awaiting : Next → Read → Read
awaiting next read = record { given = read.given; paths = read.paths; next = next }

abbrev pub with_given : Setting → List ℕ → Read → Read
with_given setting value read = record {
  given = read.given ++ record { setting = setting; value = value } ∷ [];
  paths = read.paths;
  next = Anything;
}

-- an option or a flag, once, or any number of times where it may repeat
unfoldable pub given : Setting → List ℕ → Read → Result Read WordCause
given setting value read = do
  _ ← check ((row_of setting).repeats || not (has setting read.given)) (Repeated (name_of setting))
  Ok (with_given setting value read)

-- an option with its value
unfoldable pub valued : Setting → List ℕ → Read → Result Read WordCause
valued setting value read = do
  _ ← check (is_good (row_of setting).takes value) (BadValue (name_of setting))
  given setting value read

-- an option or a flag as it stands in its word, with the value behind `=` or without: a flag has none, and the
-- value of an option that has none is the next word
abbrev pub known : Setting → Option Form → Option (List ℕ) → Read → Result Read WordCause
known setting None None read = given setting [] read
known setting None (Some value) read = Err (UnwantedValue (name_of setting))
known setting (Some form) (Some value) read = valued setting value read
known setting (Some form) None read = Ok (awaiting (Value setting) read)

-- the place of the first `=`
abbrev pub equals_at : List ℕ → Option ℕ
equals_at word = position (λ b. b == 61) word

abbrev pub name_in : List ℕ → List ℕ
name_in word = unwrap_or (option_map (λ n. take n word) (equals_at word)) word

abbrev pub value_in : List ℕ → Option (List ℕ)
value_in word = option_map (λ n. drop (n + 1) word) (equals_at word)

abbrev pub known_in : Option Setting → List ℕ → Read → Result Read WordCause
known_in None word read = Err (UnknownOption word)
known_in (Some setting) word read = known setting (row_of setting).takes (value_in word) read

abbrev pub with_option : List Setting → List ℕ → Read → Result Read WordCause
with_option table word read = known_in (setting_named table (name_in word)) word read

-- `--` ends the options, and other words that begin with `-` are options
unfoldable pub with_any : List Setting → List ℕ → Read → Result Read WordCause
with_any table word read =
    if bytes_eq word (codes "--") then Ok (awaiting Path read)
    else (if starts_with nat_eq word (codes "-") then with_option table word read
    else Ok (with_path word read))

-- ---- a word, and all words

abbrev pub with_word : List Setting → Next → List ℕ → Read → Result Read WordCause
with_word table Anything word read = with_any table word read
with_word table (Value setting) word read = valued setting word read
with_word table Path word read = Ok (with_path word read)

-- the last word isn't an option without its value
abbrev pub ended : Next → Read → Result Read WordCause
ended Anything read = Ok read
ended (Value setting) read = Err (MissingValue (name_of setting))
ended Path read = Ok read

abbrev pub read_from : List Setting → List (List ℕ) → Read → Result Read WordCause
read_from table [] read = ended read.next read
read_from table (word ∷ words) read = with_word table read.next word read >>= read_from table words
