-- A record whose number is below the quotient lies in the table.
use Rattle.std.proofs.Common.{ℕ, ◌+◌, ◌*◌, ◌/◌, ◌<◌, ◌≤◌, arith}
use Rattle.std.proofs.Math.Nat.{div-mul-le_self, mul-le-mul_right}

pub record_within : (size each i : ℕ) → i < size / each → i * each + each ≤ size
record_within size each i h =
    let whole = div-mul-le_self size each in
    let these = mul-le-mul_right each h in
    omega (arith, whole, these)
