-- Causes as text: the name of the cause, and its fields in parentheses, numbers in decimal.
use Rattle.std.specs.Prelude.{ℕ, List, ◌++◌, codes, decimal}
use Rattle.ifs_words.specs.declared.cause.WordCause.{WordCause}
use Rattle.ifs_words.specs.declared.cause.WordCause.TheVariants.{NoCommand, UnknownCommand, UnknownOption, MissingValue, UnwantedValue, BadValue, Repeated, Conflict, NoInput, TooManyInputs, MissingOption, Memory}

-- a cause with one field
unfoldable pub with_one : List ℕ → List ℕ → List ℕ
with_one cause field = cause ++ (field ++ codes ")")

-- a cause with two fields
unfoldable pub with_two : List ℕ → List ℕ → List ℕ → List ℕ
with_two cause one other = cause ++ (one ++ (codes ", " ++ (other ++ codes ")")))

abbrev pub printed_word_cause : WordCause → List ℕ
printed_word_cause NoCommand = codes "NoCommand"
printed_word_cause (UnknownCommand word) = with_one (codes "UnknownCommand(") word
printed_word_cause (UnknownOption word) = with_one (codes "UnknownOption(") word
printed_word_cause (MissingValue option) = with_one (codes "MissingValue(") option
printed_word_cause (UnwantedValue flag) = with_one (codes "UnwantedValue(") flag
printed_word_cause (BadValue option) = with_one (codes "BadValue(") option
printed_word_cause (Repeated option) = with_one (codes "Repeated(") option
printed_word_cause (Conflict one other) = with_two (codes "Conflict(") one other
printed_word_cause NoInput = codes "NoInput"
printed_word_cause (TooManyInputs count) = with_one (codes "TooManyInputs(") (decimal count)
printed_word_cause (MissingOption option) = with_one (codes "MissingOption(") option
printed_word_cause Memory = codes "Memory"
