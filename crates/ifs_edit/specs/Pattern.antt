-- Patterns of names: which names a pattern matches, an element at a time, and where its first broken element
-- begins.
use Rattle.std.specs.Prelude.{◌≡◌, ℕ, ◌+◌, ◌≤◌, Bool, true, false, not, ◌&&◌, ◌||◌, ◌==◌, nat_le, List, [], ◌∷◌, ◌++◌, length}
use Rattle.std.specs.Str.{byte}

-- the bytes that a set, or an element of one byte, stands for
abbrev pub Bytes : Type 0
Bytes = ℕ → Bool

-- ---- a set, behind its `[` and the `!` or `^`

abbrev pub within : ℕ → ℕ → Bytes
within first last b = nat_le first b && nat_le b last

abbrev pub closes : Bytes
closes b = b == byte "]"

-- with `-` and a byte other than `]` behind it a byte is the first of a range
abbrev pub ranges : List ℕ → Bool
ranges [] = false
ranges (d ∷ []) = false
ranges (d ∷ c ∷ rest) = d == byte "-" && not (closes c)

-- bytes and ranges that don't fall, up to the first `]`
pub data Items : List ℕ → Bytes → List ℕ → Type 0 where
  closed : {rest : List ℕ} → Items (byte "]" ∷ rest) (λ b. false) rest
  single : {a : ℕ} {ts rest : List ℕ} {has : Bytes} → closes a ≡ false → ranges ts ≡ false
      → Items ts has rest → Items (a ∷ ts) (λ b. within a a b || has b) rest
  range : {a c : ℕ} {ts rest : List ℕ} {has : Bytes} → closes a ≡ false → closes c ≡ false → nat_le a c ≡ true
      → Items ts has rest → Items (a ∷ byte "-" ∷ c ∷ ts) (λ b. within a c b || has b) rest

abbrev pub begins : Bytes → List ℕ → Bool
begins test [] = false
begins test (b ∷ bs) = test b

-- one item at least
abbrev pub IsSet : List ℕ → Bytes → List ℕ → Type 0
IsSet ts has rest = (begins closes ts ≡ false) × Items ts has rest

-- ---- an element

-- a backslash
abbrev pub escape : ℕ
escape = 92

abbrev pub negates : Bytes
negates b = b == byte "!" || b == byte "^"

abbrev pub is_special : Bytes
is_special b = b == byte "*" || (b == byte "?" || (b == escape || b == byte "["))

-- an element of one byte at the front, the bytes that it stands for, and what follows it
pub data OneByte : List ℕ → Bytes → List ℕ → Type 0 where
  any : {rest : List ℕ} → OneByte (byte "?" ∷ rest) (λ b. true) rest
  escaped : {c : ℕ} {rest : List ℕ} → OneByte (escape ∷ c ∷ rest) (λ b. c == b) rest
  in_set : {ts rest : List ℕ} {has : Bytes} → begins negates ts ≡ false → IsSet ts has rest
      → OneByte (byte "[" ∷ ts) has rest
  outside : {t : ℕ} {ts rest : List ℕ} {has : Bytes} → negates t ≡ true → IsSet ts has rest
      → OneByte (byte "[" ∷ t ∷ ts) (λ b. not (has b)) rest
  itself : {c : ℕ} {rest : List ℕ} → is_special c ≡ false → OneByte (c ∷ rest) (λ b. c == b) rest

-- ---- a pattern and a name

-- a star takes any bytes, or none; each other element takes one byte; both end together
pub data Matches : List ℕ → List ℕ → Type 0 where
  end : Matches [] []
  star : {pattern name : List ℕ} → (taken : List ℕ) → Matches pattern name
      → Matches (byte "*" ∷ pattern) (taken ++ name)
  one : {pattern rest name : List ℕ} {has : Bytes} {b : ℕ} → OneByte pattern has rest → has b ≡ true
      → Matches rest name → Matches pattern (b ∷ name)

-- ---- the first broken element

-- an element at the front of bytes, and what follows it
pub data IsElement : List ℕ → List ℕ → Type 0 where
  any_bytes : {rest : List ℕ} → IsElement (byte "*" ∷ rest) rest
  one_byte : {bytes rest : List ℕ} {has : Bytes} → OneByte bytes has rest → IsElement bytes rest

-- elements at the front, and what follows them
pub data AreElements : List ℕ → List ℕ → Type 0 where
  none : {bytes : List ℕ} → AreElements bytes bytes
  more : {bytes after rest : List ℕ} → IsElement bytes after → AreElements after rest → AreElements bytes rest

-- no element stands at the front of bytes, though there are some
abbrev pub IsBroken : List ℕ → Type 0
IsBroken bytes = (1 ≤ length bytes) × ((rest : List ℕ) → IsElement bytes rest → ⊥)

-- behind elements a broken one begins at this offset
abbrev pub BrokenAt : List ℕ → ℕ → Type 0
BrokenAt pattern at =
    (rest : List ℕ) × AreElements pattern rest × IsBroken rest × (at + length rest ≡ length pattern)
