-- Fields: which bits a value goes into, and which values go in.
use Rattle.std.specs.Prelude.{ℕ, ℤ, pos, ◌+◌, ◌-◌, ◌*◌, ◌/◌, ◌%◌, ◌^◌, ◌==◌, ◌&&◌, Bool, true, nat_lt, nat_le, int_lt, int_le, unsigned_abs, Result, Ok, Err, if◌then◌else◌}
use Rattle.std.specs.Int.{int_rem_euclid}
use Rattle.link_machine.specs.declared.class.PatchCause.{PatchCause}
use Rattle.link_machine.specs.declared.class.PatchCause.TheVariants.{Overflow, Misaligned}
use Rattle.link_machine.specs.declared.rule.Bits.{Bits}
use Rattle.link_machine.specs.declared.rule.Field.{Field}
use Rattle.link_machine.specs.declared.rule.Field.TheVariants.{Unchanged, One, Two}
use Rattle.link_machine.specs.declared.rule.Range.{Range}
use Rattle.link_machine.specs.declared.rule.Range.TheVariants.{Any, Within}
use Rattle.link_machine.specs.declared.rule.Rule.{Rule}

-- the number from 0 to below m that is z but for a multiple of m
abbrev pub modulo : ℤ → ℕ → ℕ
modulo z m = unsigned_abs (int_rem_euclid z (pos m))

-- how many bits [high:low] are
abbrev pub count_of : Bits → ℕ
count_of b = b.high - b.low + 1

-- the bits [high:low] of a value
abbrev pub taken : Bits → ℕ → ℕ
taken b value = value / 2 ^ b.low % 2 ^ count_of b

-- a field's number with those bits of the value from bit at on; the bits below and above stay
abbrev pub with_bits : Bits → ℕ → ℕ → ℕ
with_bits b value old =
    old % 2 ^ b.at + taken b value * 2 ^ b.at + old / 2 ^ (b.at + count_of b) * 2 ^ (b.at + count_of b)

-- a field's number after the patch; a value counts modulo 2^64
abbrev pub patched : Field → ℤ → ℕ → ℕ
patched Unchanged z old = old
patched (One b) z old = with_bits b (modulo z (2 ^ 64)) old
patched (Two b c) z old = with_bits c (modulo z (2 ^ 64)) (with_bits b (modulo z (2 ^ 64)) old)

abbrev pub is_within : Range → ℤ → Bool
is_within Any z = true
is_within (Within least end) z = int_le least z && int_lt z end

abbrev pub is_multiple : ℕ → ℤ → Bool
is_multiple m z = modulo z m == 0

-- the bits are bits of a value, and lie in a field of that many bytes
abbrev pub are_sound : ℕ → Bits → Bool
are_sound size b = nat_le b.low b.high && nat_lt b.high 64 && nat_le (b.at + count_of b) (8 * size)

abbrev pub is_sound : ℕ → Field → Bool
is_sound size Unchanged = true
is_sound size (One b) = are_sound size b
is_sound size (Two b c) = are_sound size b && are_sound size c

-- the field's number after the patch, or why there is none: the range goes first
unfoldable pub patch_by : Rule → ℤ → ℕ → Result ℕ PatchCause
patch_by rule z old =
    if is_within rule.range z
    then (if is_multiple rule.multiple z then Ok (patched rule.field z old) else Err Misaligned)
    else Err (Overflow z)

-- a row is sound: its bits lie in its field, and it asks for a multiple of a number above 0
abbrev pub is_rule_sound : Rule → Bool
is_rule_sound rule = is_sound rule.size rule.field && nat_le rule.size 8 && nat_lt 0 rule.multiple
