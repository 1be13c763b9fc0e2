-- A patched field still fits its bytes.
use Rattle.std.proofs.Common.{◌≡◌, ℕ, ℤ, ◌+◌, ◌*◌, ◌/◌, ◌^◌, ◌<◌, ◌≤◌, true, arith}
use Rattle.link_machine.specs.Patch.{with_bits, patched, modulo, are_sound, is_sound, count_of, taken}
use Rattle.link_machine.specs.declared.rule.Bits.{Bits}
use Rattle.link_machine.specs.declared.rule.Field.{Field}
use Rattle.link_machine.specs.declared.rule.Field.TheVariants.{Unchanged, One, Two}
use Rattle.link_machine.proofs.Runs.{shifted_room, above_fits, below_room}

with_bits_fits : (b : Bits) (w v old : ℕ) → b.at + count_of b ≤ w → old < 2 ^ w → with_bits b v old < 2 ^ w
with_bits_fits b w v old le h =
    omega (
      arith,
      below_room old b.at,
      shifted_room (taken b v) b.at (count_of b) (below_room (v / 2 ^ b.low) (count_of b)),
      above_fits old (b.at + count_of b) w h le,
    )

ends_within : (size : ℕ) (b : Bits) → are_sound size b ≡ true → b.at + count_of b ≤ 8 * size
ends_within size b s = grind arith

pub patched_fits : (f : Field) (z : ℤ) (old size : ℕ) → is_sound size f ≡ true → old < 2 ^ (8 * size) → patched f z old < 2 ^ (8 * size)
patched_fits Unchanged z old size s h = h
patched_fits (One b) z old size s h = with_bits_fits b (8 * size) (modulo z (2 ^ 64)) old (ends_within size b s) h
patched_fits (Two b c) z old size s h =
    let sb : are_sound size b ≡ true = grind arith in
    let sc : are_sound size c ≡ true = grind arith in
    with_bits_fits c (8 * size) (modulo z (2 ^ 64)) (with_bits b (modulo z (2 ^ 64)) old) (ends_within size c sc)
    (with_bits_fits b (8 * size) (modulo z (2 ^ 64)) old (ends_within size b sb) h)
