-- A number of five digits is small.
use Rattle.std.proofs.Common.{◌≡◌, ℕ, zero, suc, ◌+◌, ◌*◌, ◌<◌, ◌≤◌, Bool, true, false, if◌then◌else◌, List, [], ◌∷◌, length, Option, Some, None, refl, sym, ◌∙◌, arith}
use Rattle.std.specs.Char.{digit_value, is_digit}
use Rattle.ifs_bytes.specs.Numeral.{numeral_from, numeral, in_64_bits}

-- b with k more zeros
abbrev widened : ℕ → ℕ → ℕ
widened zero b = b
widened (suc k) b = widened k (b * 10)

widened_grows : (k b : ℕ) → b ≤ widened k b
widened_grows zero b = omega arith
widened_grows (suc k) b = let h = widened_grows k (b * 10) in omega (arith, h)

some_is : (m n : ℕ) → Some m ≡ Some n → m ≡ n
some_is m n e = cc

few_by : (k b value n d : ℕ) (ds : List ℕ) → value < b
    → ((m : ℕ) → m < b * 10 → numeral_from 10 m ds ≡ Some n → n < widened k (b * 10))
    → (test : Bool) → is_digit d 10 ≡ test → (if test then numeral_from 10 (value * 10 + digit_value d) ds else None) ≡ Some n → n < widened k (b * 10)
few_by k b value n d ds small rest true is e =
    let below : digit_value d < 10 = grind (arith, is) in
    rest (value * 10 + digit_value d) (omega (arith, below, small)) e
few_by k b value n d ds small rest false is e = absurd (cc)

few : (k b value n : ℕ) (ds : List ℕ) → value < b → length ds ≤ k → numeral_from 10 value ds ≡ Some n → n < widened k b
few k b value n [] small short e =
    let is : value ≡ n = some_is value n e in
    let h = widened_grows k b in
    omega (arith, h, is, small)
few zero b value n (d ∷ ds) small short e = grind (arith, short)
few (suc k) b value n (d ∷ ds) small short e =
    few_by k b value n d ds small (λ m h f. few k (b * 10) m n ds h (omega (arith, short)) f) (is_digit d 10) refl e

few_numeral : (n : ℕ) (ds : List ℕ) → length ds ≤ 5 → numeral 10 ds ≡ Some n → n < 100000
few_numeral n [] short e = absurd (cc)
few_numeral n (d ∷ ds) short e = few 5 1 0 n (d ∷ ds) (omega arith) short e

by_value : (ds : List ℕ) → length ds ≤ 5 → (o : Option ℕ) → numeral 10 ds ≡ o → in_64_bits o ≡ o
by_value ds short None e = refl
by_value ds short (Some m) e = let small = few_numeral m ds short e in grind (arith, small)

-- so it needs no test
pub few_fit : (ds : List ℕ) → length ds ≤ 5 → in_64_bits (numeral 10 ds) ≡ numeral 10 ds
few_fit ds short = by_value ds short (numeral 10 ds) refl

pub few_small : (n : ℕ) (ds : List ℕ) → length ds ≤ 5 → in_64_bits (numeral 10 ds) ≡ Some n → n < 100000
few_small n ds short e = few_numeral n ds short (sym (few_fit ds short) ∙ e)
