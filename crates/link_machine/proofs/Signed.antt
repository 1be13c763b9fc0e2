-- Differences of signed numbers of 128 bits.
use Rattle.std.proofs.Common.{◌≡◌, ℤ, ◌-ℤ◌}
use Rattle.std.specs.Int.{w128}
use Rattle.std.specs.Prelude.{FitsSigned}
use mir.Val.{to_z, of_z}
use Rattle.std.proofs.lemmas.Int.{to_z-of_z}

-- the difference of what a function gives of two numbers
pub difference : (f : ℤ → ℤ) (a b x y : ℤ) → FitsSigned w128 a → FitsSigned w128 b
    → x ≡ f (to_z w128 (of_z w128 a)) → y ≡ f (to_z w128 (of_z w128 b))
    → FitsSigned w128 x → FitsSigned w128 y → FitsSigned w128 (x -ℤ y)
    → to_z w128 (of_z w128 (to_z w128 (of_z w128 x) -ℤ to_z w128 (of_z w128 y))) ≡ f a -ℤ f b
difference f a b x y fa fb ex ey fx fy fxy =
    let ea = to_z-of_z w128 a fa in
    let eb = to_z-of_z w128 b fb in
    rw (to_z-of_z w128 x fx) (rw (to_z-of_z w128 y fy) (rw (to_z-of_z w128 (x -ℤ y) fxy) cc))
