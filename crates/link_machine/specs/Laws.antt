-- What a patch keeps, and what is read back from a field.
use Rattle.std.specs.Prelude.{ℕ, ℤ, pos, ◌≡◌, ◌+◌, ◌-◌, ◌*◌, ◌/◌, ◌%◌, ◌^◌, ◌==◌, ◌&&◌, ◌||◌, ◌-ℤ◌, Bool, true, false, nat_le, nat_lt, if◌then◌else◌}
use Rattle.std.specs.Int.{bit_at}
use Rattle.link_machine.specs.Patch.{count_of, patched, modulo}
use Rattle.link_machine.specs.declared.rule.Bits.{Bits}
use Rattle.link_machine.specs.declared.rule.Field.{Field}
use Rattle.link_machine.specs.declared.rule.Field.TheVariants.{Unchanged, One, Two}

-- bit i of a field is one of a run
abbrev pub is_in : Bits → ℕ → Bool
is_in b i = nat_le b.at i && nat_lt i (b.at + count_of b)

-- bit i of a field is one that a value goes into
abbrev pub is_replaced : Field → ℕ → Bool
is_replaced Unchanged i = false
is_replaced (One b) i = is_in b i
is_replaced (Two b c) i = is_in b i || is_in c i

-- a patch changes only the bits of its field
abbrev pub KeepsOtherBits : Field → ℤ → ℕ → Type 0
KeepsOtherBits field z old =
    (i : ℕ) → is_replaced field i ≡ false → bit_at (patched field z old) i ≡ bit_at old i

-- of two patches of a field the later one stands; so to patch twice is to patch once
abbrev pub LaterStands : Field → ℤ → ℤ → ℕ → Type 0
LaterStands field y z old = patched field y (patched field z old) ≡ patched field y old

-- the number in a run, worth what its bits are worth in the value
abbrev pub run_read : Bits → ℕ → ℕ
run_read b n = n / 2 ^ b.at % 2 ^ count_of b * 2 ^ b.low

-- the number in a field
abbrev pub field_read : Field → ℕ → ℕ
field_read Unchanged n = 0
field_read (One b) n = run_read b n
field_read (Two b c) n = run_read b n + run_read c n

-- the lowest bit of a value that a field holds, and the bit behind the highest one
abbrev pub lowest : Field → ℕ
lowest Unchanged = 0
lowest (One b) = b.low
lowest (Two b c) = b.low

abbrev pub top : Field → ℕ
top Unchanged = 0
top (One b) = b.low + count_of b
top (Two b c) = c.low + count_of c

-- two runs hold neighbouring bits of a value, and the first one stands above the second
abbrev pub is_joined : Field → Bool
is_joined Unchanged = true
is_joined (One b) = true
is_joined (Two b c) = c.low == b.low + count_of b && nat_le (c.at + count_of c) b.at

-- what is read back are the value's bits up to the field's highest one
abbrev pub IsReadBack : Field → ℤ → ℕ → Type 0
IsReadBack field z old = field_read field (patched field z old) ≡ modulo z (2 ^ top field)

-- a number of k bits, read with a sign
abbrev pub with_sign : ℕ → ℕ → ℤ
with_sign k n = if nat_lt n (2 ^ (k - 1)) then pos n else pos n -ℤ pos (2 ^ k)
