-- Bytes of a line, and what they may begin (YAML 1.2, "Character Productions").
use Rattle.std.specs.Prelude.{ℕ, ◌+◌, Bool, false, ◌||◌, ◌&&◌, not, ◌==◌, List, [], ◌∷◌, nat_lt, if◌then◌else◌}
use Rattle.std.specs.Str.{byte}

-- a blank is a space or a tab
unfoldable pub is_blank : ℕ → Bool
is_blank b = b == 32 || b == 9

-- the first byte passes
abbrev pub begins : (ℕ → Bool) → List ℕ → Bool
begins test [] = false
begins test (b ∷ rest) = test b

-- how many blanks stand at the front
abbrev pub blanks : List ℕ → ℕ
blanks [] = 0
blanks (b ∷ rest) = if is_blank b then 1 + blanks rest else 0

unfoldable pub is_quote : ℕ → Bool
is_quote b = b == byte "'" || b == byte "\""

unfoldable pub is_open : ℕ → Bool
is_open b = b == byte "{" || b == byte "["

unfoldable pub is_close : ℕ → Bool
is_close b = b == byte "}" || b == byte "]"

-- the indicators of flow
unfoldable pub is_flow : ℕ → Bool
is_flow b = is_open b || is_close b || b == byte ","

-- what begins a form that the profile leaves out
unfoldable pub is_left_out : ℕ → Bool
is_left_out b =
    b == byte "&" || b == byte "*" || b == byte "!" || b == byte "|" || b == byte ">" || b == byte "%" || b == byte "@" || b == byte "`"

-- a byte that no text has: a control other than tab, LF and CR, or a CR that no LF follows
unfoldable pub is_bad : ℕ → List ℕ → Bool
is_bad b rest = if b == 13 then not (begins (λ c. c == 10) rest) else (nat_lt b 32 && not (b == 9 || b == 10))
