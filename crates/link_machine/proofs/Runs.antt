-- Runs of bits, as products and quotients by powers of 2.
use Rattle.std.proofs.Common.{◌≡◌, ℕ, ◌+◌, ◌-◌, ◌*◌, ◌/◌, ◌%◌, ◌^◌, ◌<◌, ◌≤◌, arith, subst, sym}
use Rattle.std.proofs.lemmas.Nat.{pow-add, row_fits, shr_below, shl_whole, mod_below, pow_pos}

-- a run of count bits from at on ends at the bit at + count
pub shifted_room : (v at count : ℕ) → v < 2 ^ count → v * 2 ^ at + 2 ^ at ≤ 2 ^ (at + count)
shifted_room v at count h = omega (arith, row_fits v (2 ^ at) (2 ^ count) (2 ^ at) h (omega arith), pow-add 2 at count)

-- what is left of a number of w bits above bit k
above_room : (n k j : ℕ) → n < 2 ^ (k + j) → n / 2 ^ k * 2 ^ k + 2 ^ k ≤ 2 ^ (k + j)
above_room n k j h =
    let e : k + j ≡ j + k = omega arith in
    let h' : n < 2 ^ (j + k) = subst (λ x. n < 2 ^ x) e h in shifted_room (n / 2 ^ k) k j (shr_below n j k h')

pub above_fits : (n k w : ℕ) → n < 2 ^ w → k ≤ w → n / 2 ^ k * 2 ^ k + 2 ^ k ≤ 2 ^ w
above_fits n k w h le =
    let j : ℕ = w - k in
    let e : w ≡ k + (w - k) = omega arith in
    let h' : n < 2 ^ (k + (w - k)) = subst (λ x. n < 2 ^ x) e h in
    subst (λ x. n / 2 ^ k * 2 ^ k + 2 ^ k ≤ 2 ^ x) (sym e) (above_room n k (w - k) h')

pub above_64 : (n k : ℕ) → n < 2 ^ 64 → k ≤ 64 → n / 2 ^ k * 2 ^ k + 2 ^ k ≤ 2 ^ 64
above_64 n k h le = above_fits n k 64 h le

-- a shift of such a run loses no bit
pub shifted_whole : (v at count : ℕ) → v < 2 ^ count → at + count ≤ 64 → (v * 2 ^ at) % 2 ^ 128 ≡ v * 2 ^ at
shifted_whole v at count h le = shl_whole v count at 128 h (omega arith)

pub below_room : (n k : ℕ) → n % 2 ^ k < 2 ^ k
below_room n k = mod_below n (2 ^ k) (pow_pos k)
