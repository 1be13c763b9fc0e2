-- A place is the least multiple of its alignment that isn't below a number.
use Rattle.std.proofs.Common.{◌≡◌, ℕ, ◌+◌, ◌-◌, ◌*◌, ◌/◌, ◌%◌, ◌<◌, ◌≤◌, max, refl, ap, ◌∙◌, sym, arith, div-add-mod', mod-lt, add-zero}
use Rattle.std.proofs.lemmas.Nat.{mod-mul-add}
use Rattle.std.specs.Prelude.{suc, zero}
use Rattle.link_core.specs.Aligned.{alignment, aligned}
use Rattle.link_core.specs.LinkLaws.{IsLeastMultiple, PlacesAreLeast}

-- the quotient times m is between n - (m - 1) and n
between : (at m q r : ℕ) → 1 ≤ m → r < m → q + r ≡ at + (m - 1) → (at ≤ q) × (q < at + m)
between at m q r some small sum = (omega (arith, some, small, sum), omega (arith, some, small, sum))

positive : (align : ℕ) → 1 ≤ alignment align
positive align = omega (arith)

pub places_are_least : PlacesAreLeast
unfolding aligned
places_are_least align at =
    let m = alignment align in
    let n = at + (m - 1) in
    let near = between at m (n / m * m) (n % m) (positive align) (mod-lt n (positive align)) (div-add-mod' n m) in
    record {
      not_below = near.0;
      least = near.1;
      multiple = ap (λ (k : ℕ). k % m) (sym (add-zero (n / m * m))) ∙ mod-mul-add (n / m) m 0 (positive align);
    }
