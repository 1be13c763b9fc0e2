-- What a patch keeps, what stands of two patches, and what is read back.
use Rattle.std.proofs.Common.{◌≡◌, ℕ, ℤ, ◌+◌, ◌-◌, ◌/◌, ◌^◌, ◌<◌, ◌≤◌, Bool, true, false, refl, arith, sym, ◌∙◌, inl, inr}
use Rattle.std.specs.Int.{bit_at}
use Rattle.std.proofs.lemmas.Bool.{cases_lt}
use Rattle.std.proofs.lemmas.Nat.Bits.{same_from_bits}
use Rattle.link_machine.specs.Patch.{with_bits, modulo, count_of, taken}
use Rattle.link_machine.specs.Laws.{is_in, KeepsOtherBits, LaterStands}
use Rattle.link_machine.specs.declared.rule.Bits.{Bits}
use Rattle.link_machine.specs.declared.rule.Field.{Field}
use Rattle.link_machine.specs.declared.rule.Field.TheVariants.{Unchanged, One, Two}
use Rattle.link_machine.proofs.Runs.{below_room}
use Rattle.link_machine.proofs.PutRuns.{bit_put_below, bit_put_above, bit_put_inside}

by_test : {P : Type 0} (x : Bool) → (x ≡ true → P) → (x ≡ false → P) → P
by_test true t f = t refl
by_test false t f = f refl

in_run : (b : Bits) (v old i : ℕ) → is_in b i ≡ true → bit_at (with_bits b v old) i ≡ bit_at v (b.low + (i - b.at))
in_run b v old i h =
    let from : b.at ≤ i = grind arith in
    let to : i < b.at + count_of b = grind arith in
    bit_put_inside b.at (count_of b) b.low v old i from to

by_order : {P : Type 0} (m n : ℕ) → (m < n → P) → (n ≤ m → P) → P
by_order m n f g = elim (cases_lt m n) [ inl h ↦ f h | inr h ↦ g h ]

past : (b : Bits) (i : ℕ) → is_in b i ≡ false → b.at ≤ i → b.at + count_of b ≤ i
past b i h from = grind arith

out_of_run : (b : Bits) (v old i : ℕ) → is_in b i ≡ false → bit_at (with_bits b v old) i ≡ bit_at old i
out_of_run b v old i h =
    by_order i b.at
    (λ lt. bit_put_below b.at (count_of b) (taken b v) old i lt)
    (λ le. bit_put_above b.at (count_of b) (taken b v) old i (below_room (v / 2 ^ b.low) (count_of b)) (past b i h le))

pub keeps_other_bits : (f : Field) (z : ℤ) (old : ℕ) → KeepsOtherBits f z old
keeps_other_bits Unchanged z old i h = refl
keeps_other_bits (One b) z old i h = out_of_run b (modulo z (2 ^ 64)) old i h
keeps_other_bits (Two b c) z old i h =
    let hb : is_in b i ≡ false = grind arith in
    let hc : is_in c i ≡ false = grind arith in
    out_of_run c (modulo z (2 ^ 64)) (with_bits b (modulo z (2 ^ 64)) old) i hc ∙ out_of_run b (modulo z (2 ^ 64)) old i hb

later_run : (b : Bits) (v w old i : ℕ) → bit_at (with_bits b v (with_bits b w old)) i ≡ bit_at (with_bits b v old) i
later_run b v w old i =
    by_test (is_in b i)
    (λ h. in_run b v (with_bits b w old) i h ∙ sym (in_run b v old i h))
    (λ h. out_of_run b v (with_bits b w old) i h ∙ out_of_run b w old i h ∙ sym (out_of_run b v old i h))

later_second : (b c : Bits) (v w old i : ℕ) → is_in c i ≡ false
    → bit_at (with_bits b v (with_bits c w (with_bits b w old))) i ≡ bit_at (with_bits b v old) i
later_second b c v w old i hc =
    by_test (is_in b i)
    (λ h. in_run b v (with_bits c w (with_bits b w old)) i h ∙ sym (in_run b v old i h))
    (λ h. out_of_run b v (with_bits c w (with_bits b w old)) i h
    ∙ out_of_run c w (with_bits b w old) i hc
    ∙ out_of_run b w old i h
    ∙ sym (out_of_run b v old i h))

later_runs : (b c : Bits) (v w old i : ℕ)
    → bit_at (with_bits c v (with_bits b v (with_bits c w (with_bits b w old)))) i ≡ bit_at (with_bits c v (with_bits b v old)) i
later_runs b c v w old i =
    by_test (is_in c i)
    (λ h. in_run c v (with_bits b v (with_bits c w (with_bits b w old))) i h ∙ sym (in_run c v (with_bits b v old) i h))
    (λ h. out_of_run c v (with_bits b v (with_bits c w (with_bits b w old))) i h
    ∙ later_second b c v w old i h
    ∙ sym (out_of_run c v (with_bits b v old) i h))

pub later_stands : (f : Field) (y z : ℤ) (old : ℕ) → LaterStands f y z old
later_stands Unchanged y z old = refl
later_stands (One b) y z old =
    same_from_bits (with_bits b (modulo y (2 ^ 64)) (with_bits b (modulo z (2 ^ 64)) old)) (with_bits b (modulo y (2 ^ 64)) old)
    (λ i. later_run b (modulo y (2 ^ 64)) (modulo z (2 ^ 64)) old i)
later_stands (Two b c) y z old =
    same_from_bits
    (with_bits c (modulo y (2 ^ 64)) (with_bits b (modulo y (2 ^ 64)) (with_bits c (modulo z (2 ^ 64)) (with_bits b (modulo z (2 ^ 64)) old))))
    (with_bits c (modulo y (2 ^ 64)) (with_bits b (modulo y (2 ^ 64)) old))
    (λ i. later_runs b c (modulo y (2 ^ 64)) (modulo z (2 ^ 64)) old i)
