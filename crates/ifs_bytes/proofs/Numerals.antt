-- Numbers that digits write: more digits make them no smaller, and a printed number is read back.
use Rattle.std.proofs.Common.{◌≡◌, ℕ, suc, ◌+◌, ◌*◌, ◌^◌, ◌<◌, ◌≤◌, Bool, true, false, if◌then◌else◌, List, [], ◌∷◌, length, drop, get_or, decimal, Option, Some, None, refl, sym, ap, ◌∙◌, arith}
use Rattle.std.proofs.Math.Nat.{mul-le-mul_left}
use Rattle.std.proofs.Math.Seq.{drop-cons}
use Rattle.std.proofs.lemmas.Fmt.{decimal_is_IsNumeral}
use Rattle.std.proofs.lemmas.Bool.{lt-ltb}
use Rattle.std.specs.Char.{digit_value, is_digit}
use Rattle.std.specs.Str.Parse.{AllDigits, digits_value_after}
use Rattle.ifs_bytes.specs.Numeral.{numeral_from, numeral, in_64_bits}

too_large : (n : ℕ) → 2 ^ 64 ≤ n → in_64_bits (Some n) ≡ None
too_large n large = grind (arith, large)

large_by_test : (n : ℕ) → in_64_bits (Some n) ≡ None → 2 ^ 64 ≤ n
large_by_test n none = grind (arith, none)

by_digit : (radix value b : ℕ) (bs : List ℕ) → 1 ≤ radix → 2 ^ 64 ≤ value → ((n : ℕ) → 2 ^ 64 ≤ n → in_64_bits (numeral_from radix n bs) ≡ None) → (test : Bool) → in_64_bits (if test then numeral_from radix (value * radix + digit_value b) bs else None) ≡ None
by_digit radix value b bs some large stays true =
    stays (value * radix + digit_value b) (omega (arith, large, mul-le-mul_left value some))
by_digit radix value b bs some large stays false = refl

-- more digits don't bring a number back into 64 bits
stays_large : (radix value : ℕ) (bs : List ℕ) → 1 ≤ radix → 2 ^ 64 ≤ value → in_64_bits (numeral_from radix value bs) ≡ None
stays_large radix value [] some large = too_large value large
stays_large radix value (b ∷ bs) some large =
    by_digit radix value b bs some large (λ n h. stays_large radix n bs some h) (is_digit b radix)

-- what a digit makes of the number before it
abbrev with_digit : ℕ → ℕ → ℕ → Bool → Option ℕ
with_digit radix value b test = if test then Some (value * radix + digit_value b) else None

no_number : (radix value b : ℕ) (bs : List ℕ) → 1 ≤ radix → (test : Bool) → in_64_bits (with_digit radix value b test) ≡ None → in_64_bits (if test then numeral_from radix (value * radix + digit_value b) bs else None) ≡ None
no_number radix value b bs some true none =
    stays_large radix (value * radix + digit_value b) bs some (large_by_test (value * radix + digit_value b) none)
no_number radix value b bs some false none = refl

some_digits : (radix : ℕ) (ds : List ℕ) → 0 < length ds → numeral radix ds ≡ numeral_from radix 0 ds
some_digits radix [] some = grind (arith, some)
some_digits radix (b ∷ bs) some = refl

-- the digits write no number of 64 bits where one of them makes none
pub none_by_a_digit : (radix value i : ℕ) (ds : List ℕ) → 1 ≤ radix → i < length ds → in_64_bits (numeral_from radix value (drop i ds)) ≡ in_64_bits (numeral_from radix 0 ds) → None ≡ in_64_bits (with_digit radix value (get_or ds i 0) (is_digit (get_or ds i 0) radix)) → None ≡ in_64_bits (numeral radix ds)
none_by_a_digit radix value i ds some within left none =
    let b = get_or ds i 0 in
    let here = no_number radix value b (drop (suc i) ds) some (is_digit b radix) (sym none) in
    let cut = ap (λ bs. in_64_bits (numeral_from radix value bs)) (drop-cons ds i 0 within) in
    sym here ∙ sym cut ∙ left ∙ ap in_64_bits (sym (some_digits radix ds (omega (arith, within))))

-- ---- a printed number

digits_write : (radix value : ℕ) (ds : List ℕ) → AllDigits radix ds → numeral_from radix value ds ≡ Some (digits_value_after radix value ds)
digits_write radix value [] all = refl
digits_write radix value (d ∷ ds) all =
    let here : is_digit d radix ≡ true = lt-ltb _ _ all.0 in
    ap (λ test. if test then numeral_from radix (value * radix + digit_value d) ds else None) here ∙ digits_write radix (value * radix + digit_value d) ds all.1

-- is read back
pub numeral-decimal : (n : ℕ) → n < 2 ^ 64 → numeral 10 (decimal n) ≡ Some n
numeral-decimal n small =
    let printed = decimal_is_IsNumeral n small in
    some_digits 10 (decimal n) printed.0.0 ∙ digits_write 10 0 (decimal n) printed.0.1 ∙ ap Some printed.1
