-- Numbers that digits write, the first one the most. A digit is 0 to 9, then a letter in either case.
use Rattle.std.specs.Prelude.{ℕ, ◌+◌, ◌*◌, ◌^◌, nat_lt, List, [], ◌∷◌, Option, Some, None, if◌then◌else◌}
use Rattle.std.specs.Char.{digit_value, is_digit}

-- the number that the digits write when they follow those of value; none where a byte is no digit
abbrev pub numeral_from : ℕ → ℕ → List ℕ → Option ℕ
numeral_from radix value [] = Some value
numeral_from radix value (b ∷ bs) =
    if is_digit b radix then numeral_from radix (value * radix + digit_value b) bs else None

-- the number that the digits write; there is one digit or more
abbrev pub numeral : ℕ → List ℕ → Option ℕ
numeral radix [] = None
numeral radix (b ∷ bs) = numeral_from radix 0 (b ∷ bs)

-- a number that has a place in 64 bits
abbrev pub in_64_bits : Option ℕ → Option ℕ
in_64_bits None = None
in_64_bits (Some n) = if nat_lt n (2 ^ 64) then Some n else None
