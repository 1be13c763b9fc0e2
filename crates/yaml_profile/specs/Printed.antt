-- How a scalar is printed: plain where readers of YAML 1.2 take it for a text, else in quotes (YAML 1.2,
-- "Flow Scalar Styles").
use Rattle.std.specs.Prelude.{ℕ, ◌+◌, ◌-◌, ◌/◌, ◌%◌, Bool, false, ◌||◌, ◌&&◌, not, ◌==◌, nat_lt, List, [], ◌∷◌, ◌++◌, if◌then◌else◌, codes}
use Rattle.std.specs.Char.{is_ascii_alphabetic, is_ascii_alphanumeric, is_ascii_control}
use Rattle.std.specs.List.{list_any, list_all, flat_map}
use Rattle.std.specs.Str.{byte, str_eq_ignore_ascii_case}

-- a plain scalar begins with a letter or `_`
unfoldable pub begins_plain : ℕ → Bool
begins_plain b = is_ascii_alphabetic b || b == byte "_"

-- and has letters, digits, `_`, `.` and `-`
unfoldable pub is_plain_byte : ℕ → Bool
is_plain_byte b = is_ascii_alphanumeric b || b == byte "_" || b == byte "." || b == byte "-"

-- the words that readers take for a truth value or for nothing
abbrev pub reserved_words : List (List ℕ)
reserved_words = codes "true" ∷ codes "false" ∷ codes "null" ∷ codes "yes" ∷ codes "no" ∷ codes "on" ∷ codes "off" ∷ []

-- one of them, whatever the case of its letters
unfoldable pub is_reserved : List ℕ → Bool
is_reserved text = list_any (str_eq_ignore_ascii_case text) reserved_words

-- a text that stands for itself
unfoldable pub is_plain : List ℕ → Bool
is_plain [] = false
is_plain (first ∷ rest) = begins_plain first && list_all is_plain_byte rest && not (is_reserved (first ∷ rest))

-- a byte between single quotes: a quote is doubled
unfoldable pub doubled : ℕ → List ℕ
doubled b = if b == byte "'" then codes "''" else b ∷ []

abbrev pub single_quoted : List ℕ → List ℕ
single_quoted text = codes "'" ++ flat_map doubled text ++ codes "'"

-- the digit of a number below 16, with letters in lower case
abbrev pub hex_digit : ℕ → ℕ
hex_digit n = if nat_lt n 10 then byte "0" + n else (byte "a" + n) - 10

-- a byte between double quotes
unfoldable pub escaped : ℕ → List ℕ
escaped b =
    if b == byte "\\" then codes "\\\\"
    else (if b == byte "\"" then codes "\\\""
    else (if is_ascii_control b then codes "\\x" ++ hex_digit (b / 16) ∷ hex_digit (b % 16) ∷ []
    else b ∷ []))

abbrev pub double_quoted : List ℕ → List ℕ
double_quoted text = codes "\"" ++ flat_map escaped text ++ codes "\""

-- a text as it is printed
abbrev pub printed_scalar : List ℕ → List ℕ
printed_scalar text =
    if is_plain text then text
    else (if list_any is_ascii_control text then double_quoted text
    else single_quoted text)
