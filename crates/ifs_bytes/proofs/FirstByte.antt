-- What memchr answers is the first place that passes.
use Rattle.std.proofs.Common.{◌≡◌, ℕ, Bool, true, false, cond, ltb, List, length, Option, Some, None, refl, sym, ap, ◌∙◌, arith}
use Rattle.std.specs.List.{position, position_or_len}
use Rattle.std.proofs.lemmas.Bool.{lt-ltb, le-ltb}
use Rattle.std.proofs.lemmas.List.Sums.{position_or_len_is}
use Rattle.memchr.specs.Find.{IsFirstByte}

fails : (b : Bool) → (b ≡ true → ⊥) → b ≡ false
fails true h = absurd (h refl)
fails false h = refl

-- a place below a length, if it is one
abbrev place : ℕ → ℕ → Option ℕ
place n len = cond (ltb n len) (Some n) None

pub position_is_first : (test : ℕ → Bool) (xs : List ℕ) (r : Option ℕ) → IsFirstByte test xs r → r ≡ position test xs
position_is_first test xs None h =
    let none : position_or_len test xs ≡ length xs = position_or_len_is test xs (length xs) 0 (omega arith) (λ k lt. fails _ (h k (omega arith) lt)) (λ lt. absurd (omega arith)) in
    let past : ltb (length xs) (length xs) ≡ false = le-ltb _ _ (omega arith) in
    sym (ap (λ n. place n (length xs)) none ∙ ap (λ b. cond b (Some (length xs)) None) past)
position_is_first test xs (Some k) h =
    let found : position_or_len test xs ≡ k = position_or_len_is test xs k 0 (omega (arith, h.0.high)) (λ j lt. fails _ (h.0.before j (omega arith) lt)) (λ lt. h.1) in
    let within : ltb k (length xs) ≡ true = lt-ltb _ _ h.0.high in
    sym (ap (λ n. place n (length xs)) found ∙ ap (λ b. cond b (Some k) None) within)
