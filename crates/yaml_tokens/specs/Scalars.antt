-- Plain and quoted scalars, each on one line (YAML 1.2, "Flow Scalar Styles"). A size counts the bytes
-- behind the first one.
use Rattle.std.specs.Prelude.{ℕ, zero, suc, ◌+◌, ◌-◌, Bool, true, ◌||◌, ◌&&◌, not, ◌==◌, List, [], ◌∷◌, ◌++◌, length, take, drop, Option, Some, None, option_map, is_none, if◌then◌else◌}
use Rattle.std.specs.Str.{byte}
use Rattle.std.specs.Char.{encode_utf8}
use Rattle.yaml_tokens.specs.Bytes.{is_blank, begins, is_flow, is_quote, is_left_out}
use Rattle.yaml_tokens.specs.Escapes.{escape}
use Rattle.yaml_tokens.specs.declared.escape.Escape.{Escape}

-- a blank or the line's end follows, or an indicator of flow where flow is
unfoldable pub gap : Bool → List ℕ → Bool
gap flow [] = true
gap flow (b ∷ rest) = is_blank b || flow && is_flow b

-- `-`, `?` and `:` begin a plain scalar only where no gap follows
unfoldable pub is_dubious : ℕ → Bool
is_dubious b = b == byte "-" || b == byte "?" || b == byte ":"

-- a byte that begins no plain scalar
unfoldable pub is_indicator : ℕ → Bool
is_indicator b = is_quote b || is_flow b || is_left_out b || b == byte "#"

-- a plain scalar begins with a byte, which is no blank
unfoldable pub begins_plain : Bool → ℕ → List ℕ → Bool
begins_plain flow b rest = if is_dubious b then not (gap flow rest) else not (is_indicator b)

-- it ends before `:` and a gap, before a blank and `#`, and in flow before an indicator of flow
unfoldable pub ends_plain : Bool → ℕ → List ℕ → Bool
ends_plain flow b rest = b == byte ":" && gap flow rest || (is_blank b && begins (λ c. c == byte "#") rest || flow && is_flow b)

-- how many bytes of a plain scalar stand at the front, without blanks at its end
abbrev pub plain_size : Bool → List ℕ → ℕ
plain_size flow [] = 0
plain_size flow (b ∷ rest) =
    if ends_plain flow b rest then 0 else (if is_blank b && plain_size flow rest == 0 then 0 else 1 + plain_size flow rest)

-- how many bytes stand up to a closing single quote, that one included, where the first byte may be taken
-- by a quote before it: of two quotes together neither closes
abbrev pub closes_single : Bool → ℕ → List ℕ → Bool
closes_single taken b rest = b == byte "'" && not taken && not (begins (λ c. c == byte "'") rest)

abbrev pub single_size : Bool → List ℕ → Option ℕ
single_size taken [] = None
single_size taken (b ∷ rest) =
    if closes_single taken b rest then Some 1
    else option_map (λ n. 1 + n) (single_size (b == byte "'" && not taken) rest)

-- how many bytes stand up to a closing double quote, that one included, where the first byte may be taken
-- by a backslash before it
abbrev pub double_size : Bool → List ℕ → Option ℕ
double_size taken [] = None
double_size taken (b ∷ rest) =
    if b == byte "\"" && not taken then Some 1
    else option_map (λ n. 1 + n) (double_size (b == byte "\\" && not taken) rest)

-- the bytes between the quotes
abbrev pub within : List ℕ → List ℕ
within z = take (length z - 2) (drop 1 z)

-- the text between single quotes: of two quotes together the second is left out
abbrev pub kept : Bool → ℕ → List ℕ
kept left_out b = if left_out then [] else b ∷ []

abbrev pub undoubled : Bool → List ℕ → List ℕ
undoubled second [] = []
undoubled second (b ∷ rest) = kept (b == byte "'" && second) b ++ undoubled (b == byte "'" && not second) rest

-- the bytes that an escape takes behind its backslash, and what they stand for
abbrev pub escape_size : Option Escape → ℕ
escape_size None = 1
escape_size (Some e) = e.size

abbrev pub escape_text : Option Escape → List ℕ
escape_text None = []
escape_text (Some e) = encode_utf8 e.character

-- a byte between double quotes, or the escape that it begins: what it stands for, and how many bytes more
-- belong to it
unfoldable pub next_text : ℕ → List ℕ → List ℕ
next_text b rest = if b == byte "\\" then escape_text (escape rest) else b ∷ []

unfoldable pub next_size : ℕ → List ℕ → ℕ
next_size b rest = if b == byte "\\" then escape_size (escape rest) else 0

-- the text between double quotes, where escaped bytes at the front belong to the escape before
abbrev pub unescaped : ℕ → List ℕ → List ℕ
unescaped escaped [] = []
unescaped (suc escaped) (b ∷ rest) = unescaped escaped rest
unescaped zero (b ∷ rest) = next_text b rest ++ unescaped (next_size b rest) rest

-- a backslash begins no escape
unfoldable pub is_bad_escape : ℕ → List ℕ → Bool
is_bad_escape b rest = b == byte "\\" && is_none (escape rest)

-- the place of the first one, counted from at on
abbrev pub bad_escape : ℕ → ℕ → List ℕ → Option ℕ
bad_escape escaped at [] = None
bad_escape (suc escaped) at (b ∷ rest) = bad_escape escaped (at + 1) rest
bad_escape zero at (b ∷ rest) = if is_bad_escape b rest then Some at else bad_escape (next_size b rest) (at + 1) rest
