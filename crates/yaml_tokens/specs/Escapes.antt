-- The escapes between double quotes (YAML 1.2, "Escaped Characters"), by the bytes behind the backslash.
use Rattle.std.specs.Prelude.{ℕ, ◌+◌, ◌*◌, Bool, ◌||◌, ◌&&◌, ◌==◌, nat_lt, nat_le, List, [], ◌∷◌, drop, Option, Some, None, if◌then◌else◌}
use Rattle.std.specs.Str.{byte}
use Rattle.std.specs.Char.{digit_value, is_digit}
use Rattle.yaml_tokens.specs.declared.escape.Escape.{Escape}

-- the value of a hexadecimal digit
unfoldable pub digit : ℕ → Option ℕ
digit b = if is_digit b 16 then Some (digit_value b) else None

-- two numbers together, the higher first
abbrev pub joined : ℕ → Option ℕ → Option ℕ → Option ℕ
joined base None low = None
joined base (Some high) None = None
joined base (Some high) (Some low) = Some (high * base + low)

-- the number that two, four or eight digits at the front write
unfoldable pub two : List ℕ → Option ℕ
two [] = None
two (a ∷ []) = None
two (a ∷ b ∷ rest) = joined 16 (digit a) (digit b)

unfoldable pub four : List ℕ → Option ℕ
four z = joined 256 (two z) (two (drop 2 z))

unfoldable pub eight : List ℕ → Option ℕ
eight z = joined 65536 (four z) (four (drop 4 z))

-- what a single byte stands for: itself, or a control
unfoldable pub stands_for_itself : ℕ → Bool
stands_for_itself b = b == byte "\\" || b == byte "\"" || b == byte "/" || b == byte " "

unfoldable pub control : ℕ → Option ℕ
control b =
    if b == byte "0" then Some 0
    else (if b == byte "a" then Some 7
    else (if b == byte "b" then Some 8
    else (if b == byte "t" then Some 9
    else (if b == byte "n" then Some 10
    else (if b == byte "v" then Some 11
    else (if b == byte "f" then Some 12
    else (if b == byte "r" then Some 13
    else (if b == byte "e" then Some 27
    else None))))))))

abbrev pub short : ℕ → Option ℕ
short b = if stands_for_itself b then Some b else control b

-- a code point, and no surrogate
abbrev pub is_character : ℕ → Bool
is_character c = nat_lt c 0xD800 || nat_le 0xE000 c && nat_lt c 0x11_0000

-- an escape of so many bytes for the character with this code
unfoldable pub coded : ℕ → Option ℕ → Option Escape
coded size None = None
coded size (Some code) = if is_character code then Some (record { size = size; character = code }) else None

-- the escape at the front, if there is one
unfoldable pub escape : List ℕ → Option Escape
escape [] = None
escape (b ∷ rest) =
    if b == byte "x" then coded 3 (two rest)
    else (if b == byte "u" then coded 5 (four rest)
    else (if b == byte "U" then coded 9 (eight rest)
    else coded 1 (short b)))
