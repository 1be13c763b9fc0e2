-- A rounded number of 64 bits has 66 bits.
use Rattle.std.proofs.Common.{arith, ◌≡◌, ◌<◌, ◌^◌, ◌-◌, ◌+◌, ℕ}
use Rattle.std.proofs.Math.Nat.{div-mul-le_self}
use Rattle.link_core.specs.Aligned.{aligned, alignment}
use Rattle.link_tables.specs.Capped.{capped}

pub aligned_low : (align at : ℕ) → align < 2 ^ 64 → at < 2 ^ 64 → aligned align at < 2 ^ 66
unfolding aligned
aligned_low align at small low =
    let below = div-mul-le_self (at + (alignment align - 1)) (alignment align) in
    omega (arith, below, small, low)

pub aligned_fits : (align at : ℕ) → align < 2 ^ 64 → at < 2 ^ 64 → capped (aligned align at) ≡ aligned align at
aligned_fits align at small low = let below = aligned_low align at small low in omega (arith, below)
