-- The least multiple of an alignment that isn't below a place, by what is over.
use Rattle.std.proofs.Common.{◌≡◌, ℕ, suc, ◌+◌, ◌-◌, ◌*◌, ◌/◌, ◌%◌, ◌<◌, ◌≤◌, sym, ap, ◌∙◌, subst, arith}
use Rattle.std.proofs.lemmas.Nat.{div-add-mod', mod_below, div-mul-add}
use Rattle.link_core.specs.Aligned.{alignment, aligned}

next_row : (q m : ℕ) → (q + 1) * m ≡ q * m + m
next_row q m = grind arith

whole : (m q : ℕ) → 1 ≤ m → (q * m + 0 + (m - 1)) / m ≡ q
whole m q some =
    let e : q * m + 0 + (m - 1) ≡ q * m + (m - 1) = omega arith in
    ap (λ (n : ℕ). n / m) e ∙ div-mul-add q m (m - 1) (omega arith)

more : (m q r : ℕ) → suc r < m → (q * m + suc r + (m - 1)) / m ≡ q + 1
more m q r small =
    let e : q * m + suc r + (m - 1) ≡ (q + 1) * m + r = omega (arith, next_row q m) in
    ap (λ (n : ℕ). n / m) e ∙ div-mul-add (q + 1) m r (omega arith)

positive : (align : ℕ) → 0 < alignment align
positive align = omega arith

aligned_whole : (m at : ℕ) → 0 < m → at % m ≡ 0 → (at + (m - 1)) / m * m ≡ at
aligned_whole m at some over =
    let e : at / m * m + at % m ≡ at = div-add-mod' at m in
    let n : at ≡ at / m * m + 0 = omega (arith, e, over) in
    let P : ℕ → Type 0 = λ k. (k + (m - 1)) / m * m ≡ at / m * m in
    subst P (sym n) (ap (λ (k : ℕ). k * m) (whole m (at / m) (omega arith))) ∙ omega (arith, n)

aligned_more : (m at r : ℕ) → at % m ≡ suc r → suc r < m → (at + (m - 1)) / m * m ≡ at + (m - suc r)
aligned_more m at r over small =
    let e : at / m * m + at % m ≡ at = div-add-mod' at m in
    let n : at ≡ at / m * m + suc r = omega (arith, e, over) in
    let P : ℕ → Type 0 = λ k. (k + (m - 1)) / m * m ≡ (at / m + 1) * m in
    subst P (sym n) (ap (λ (k : ℕ). k * m) (more m (at / m) r small)) ∙ omega (arith, n, next_row (at / m) m)

pub aligned_here : (align at : ℕ) → at % alignment align ≡ 0 → aligned align at ≡ at
unfolding aligned
aligned_here align at over = aligned_whole (alignment align) at (positive align) over

pub aligned_above : (align at : ℕ) → 0 < at % alignment align → aligned align at ≡ at + (alignment align - at % alignment align)
unfolding aligned
aligned_above align at over =
    let m = alignment align in
    let r = at % m - 1 in
    let e : at % m ≡ suc r = omega arith in
    let small : at % m < m = mod_below at m (positive align) in
    aligned_more m at r e (omega (arith, e, small)) ∙ ap (λ (k : ℕ). at + (m - k)) (sym e)

-- the least multiple isn't below the place
pub aligned_is_behind : (align at : ℕ) → at ≤ aligned align at
unfolding aligned
aligned_is_behind align at =
    let m = alignment align in
    let n = at + (m - 1) in
    let parts : n / m * m + n % m ≡ n = div-add-mod' n m in
    let small : n % m < m = mod_below n m (positive align) in
    omega (arith, parts, small)
