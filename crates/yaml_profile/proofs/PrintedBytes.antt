-- What the bytes of printed scalars are not.
use Rattle.std.proofs.Common.{◌≡◌, ℕ, zero, suc, ◌+◌, ◌-◌, ◌<◌, ◌≤◌, Bool, true, false, cond, ◌&&◌, ◌||◌, ◌==◌, nat_lt, Some, refl, arith}
use Rattle.std.proofs.lemmas.Bool.Decides.{nat_tests}
use Rattle.std.specs.Char.{is_ascii_control}
use Rattle.yaml_tokens.specs.Bytes.{is_blank, is_quote, is_open, is_close, is_flow, is_left_out}
use Rattle.yaml_tokens.specs.Scalars.{is_dubious, is_indicator}
use Rattle.yaml_tokens.specs.Escapes.{digit}
use Rattle.yaml_profile.specs.Printed.{begins_plain, is_plain_byte, hex_digit}

pub both : (a b : Bool) → a && b ≡ true → (a ≡ true) × (b ≡ true)
both true b h = (refl, h)
both false b h = absurd (cc)

pub neither : (a b : Bool) → a || b ≡ false → (a ≡ false) × (b ≡ false)
neither true b h = absurd (cc)
neither false b h = (refl, h)

pub or_false : (a b : Bool) → a ≡ false → b ≡ false → a || b ≡ false
or_false true b h g = h
or_false false b h g = g

-- bytes of plain scalars
pub word_is_no_blank : (b : ℕ) → is_plain_byte b ≡ true → is_blank b ≡ false
unfolding is_plain_byte is_blank
word_is_no_blank b h = grind (arith, nat_tests)

pub word_is_no_colon : (b : ℕ) → is_plain_byte b ≡ true → (b == 58) ≡ false
unfolding is_plain_byte
word_is_no_colon b h = grind (arith, nat_tests)

word_is_low : (b : ℕ) → is_plain_byte b ≡ true → (45 ≤ b) × (b ≤ 122)
unfolding is_plain_byte
word_is_low b h = (grind (arith, nat_tests), grind (arith, nat_tests))

word_is_no_square : (b : ℕ) → is_plain_byte b ≡ true → (b == 91) || (b == 93) ≡ false
unfolding is_plain_byte
word_is_no_square b h = grind (arith, nat_tests)

curly : (b : ℕ) → 45 ≤ b → b ≤ 122 → ((b == 123) ≡ false) × ((b == 125) ≡ false) × ((b == 44) ≡ false)
curly b h g = (grind (arith, nat_tests), grind (arith, nat_tests), grind (arith, nat_tests))

abbrev is_bracket : ℕ → Bool
is_bracket b = ((b == 123) || (b == 91)) || ((b == 125) || (b == 93))

pub word_is_no_flow : (b : ℕ) → is_plain_byte b ≡ true → is_flow b ≡ false
unfolding is_flow is_open is_close
word_is_no_flow b h =
    let low = word_is_low b h in
    let c = curly b low.0 low.1 in
    let s = neither (b == 91) (b == 93) (word_is_no_square b h) in
    or_false (is_bracket b) (b == 44) (or_false ((b == 123) || (b == 91)) ((b == 125) || (b == 93)) (or_false (b == 123) (b == 91) c.0 s.0) (or_false (b == 125) (b == 93) c.1 s.1)) c.2

pub word_is_no_control : (b : ℕ) → is_plain_byte b ≡ true → nat_lt b 32 ≡ false
word_is_no_control b h = let low = word_is_low b h in grind (arith, nat_tests, low.0)

-- the first of them
pub first_is_word : (b : ℕ) → begins_plain b ≡ true → is_plain_byte b ≡ true
unfolding begins_plain is_plain_byte
first_is_word b h = grind (arith, nat_tests)

first_is_high : (b : ℕ) → begins_plain b ≡ true → 65 ≤ b
unfolding begins_plain
first_is_high b h = grind (arith, nat_tests)

first_is_no_tick : (b : ℕ) → begins_plain b ≡ true → (b == 96) ≡ false
unfolding begins_plain
first_is_no_tick b h = grind (arith, nat_tests)

pub first_is_no_quote : (b : ℕ) → begins_plain b ≡ true → is_quote b ≡ false
unfolding is_quote
first_is_no_quote b h = let high = first_is_high b h in grind (arith, nat_tests, high)

pub first_is_not_dubious : (b : ℕ) → begins_plain b ≡ true → is_dubious b ≡ false
unfolding is_dubious
first_is_not_dubious b h = let high = first_is_high b h in grind (arith, nat_tests, high)

pub first_is_no_hash : (b : ℕ) → begins_plain b ≡ true → (b == 35) ≡ false
first_is_no_hash b h = let high = first_is_high b h in grind (arith, nat_tests, high)

apart : (b c : ℕ) → c < 65 → 65 ≤ b → (b == c) ≡ false
apart b c h g = grind (arith, nat_tests)

beyond : (b c : ℕ) → b ≤ 122 → 122 < c → (b == c) ≡ false
beyond b c h g = grind (arith, nat_tests)

first_is_kept : (b : ℕ) → begins_plain b ≡ true → is_left_out b ≡ false
unfolding is_left_out
first_is_kept b h =
    let high = first_is_high b h in
    let low = (word_is_low b (first_is_word b h)).1 in
    or_false _ (b == 96) (or_false _ (b == 64) (or_false _ (b == 37) (or_false _ (b == 62) (or_false _ (b == 124) (or_false _ (b == 33) (or_false (b == 38) (b == 42)
    (apart b 38 (omega arith) high) (apart b 42 (omega arith) high)) (apart b 33 (omega arith) high)) (beyond b 124 low (omega arith))) (apart b 62 (omega arith) high))
    (apart b 37 (omega arith) high)) (apart b 64 (omega arith) high)) (first_is_no_tick b h)

pub first_is_no_indicator : (b : ℕ) → begins_plain b ≡ true → is_indicator b ≡ false
unfolding is_indicator
first_is_no_indicator b h =
    or_false _ (b == 35) (or_false _ (is_left_out b) (or_false (is_quote b) (is_flow b) (first_is_no_quote b h) (word_is_no_flow b (first_is_word b h))) (first_is_kept b h)) (first_is_no_hash b h)

-- hexadecimal digits
pub hex_is_no_mark : (n : ℕ) → n < 16 → ((hex_digit n == 34) ≡ false) × ((hex_digit n == 92) ≡ false)
hex_is_no_mark n h = by (nat_lt n 10) refl
  where
    by : (t : Bool) → nat_lt n 10 ≡ t → ((cond t (48 + n) ((97 + n) - 10) == 34) ≡ false) × ((cond t (48 + n) ((97 + n) - 10) == 92) ≡ false)
    by true e = (grind (arith, nat_tests), grind (arith, nat_tests))
    by false e = (grind (arith, nat_tests), grind (arith, nat_tests))

pub hex_is_no_control : (n : ℕ) → nat_lt (hex_digit n) 32 ≡ false
hex_is_no_control n = by (nat_lt n 10)
  where
    by : (t : Bool) → nat_lt (cond t (48 + n) ((97 + n) - 10)) 32 ≡ false
    by true = grind (arith, nat_tests)
    by false = grind (arith, nat_tests)

pub hex_is_digit : (n : ℕ) → n < 16 → digit (hex_digit n) ≡ Some n
unfolding digit
hex_is_digit zero h = refl
hex_is_digit (suc zero) h = refl
hex_is_digit (suc (suc zero)) h = refl
hex_is_digit (suc (suc (suc zero))) h = refl
hex_is_digit (suc (suc (suc (suc zero)))) h = refl
hex_is_digit (suc (suc (suc (suc (suc zero))))) h = refl
hex_is_digit (suc (suc (suc (suc (suc (suc zero)))))) h = refl
hex_is_digit (suc (suc (suc (suc (suc (suc (suc zero))))))) h = refl
hex_is_digit (suc (suc (suc (suc (suc (suc (suc (suc zero)))))))) h = refl
hex_is_digit (suc (suc (suc (suc (suc (suc (suc (suc (suc zero))))))))) h = refl
hex_is_digit (suc (suc (suc (suc (suc (suc (suc (suc (suc (suc zero)))))))))) h = refl
hex_is_digit (suc (suc (suc (suc (suc (suc (suc (suc (suc (suc (suc zero))))))))))) h = refl
hex_is_digit (suc (suc (suc (suc (suc (suc (suc (suc (suc (suc (suc (suc zero)))))))))))) h = refl
hex_is_digit (suc (suc (suc (suc (suc (suc (suc (suc (suc (suc (suc (suc (suc zero))))))))))))) h = refl
hex_is_digit (suc (suc (suc (suc (suc (suc (suc (suc (suc (suc (suc (suc (suc (suc zero)))))))))))))) h = refl
hex_is_digit (suc (suc (suc (suc (suc (suc (suc (suc (suc (suc (suc (suc (suc (suc (suc zero))))))))))))))) h = refl
hex_is_digit (suc (suc (suc (suc (suc (suc (suc (suc (suc (suc (suc (suc (suc (suc (suc (suc n)))))))))))))))) h = absurd (omega arith)

pub control_is_low : (b : ℕ) → is_ascii_control b ≡ true → b < 128
control_is_low b h = grind (arith, nat_tests)

pub no_control_is_high : (b : ℕ) → is_ascii_control b ≡ false → nat_lt b 32 ≡ false
no_control_is_high b h = grind (arith, nat_tests)
