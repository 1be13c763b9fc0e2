-- Where a run of bits stands in a number, the bits of the number.
use Rattle.std.proofs.Common.{◌≡◌, ℕ, ◌+◌, ◌-◌, ◌*◌, ◌/◌, ◌%◌, ◌^◌, ◌<◌, ◌≤◌, arith, subst, sym, ap, ◌∙◌}
use Rattle.std.specs.Int.{bit_at}
use Rattle.std.proofs.lemmas.Nat.{pow-add, shr_high, mod_low, shr-shr, field_of}
use Rattle.std.proofs.Math.Pow.{mod-mod-pow}
use Rattle.link_machine.proofs.Runs.{shifted_room, below_room}

-- a run x of c bits, put into old from bit at on
abbrev pub put : (at c x old : ℕ) → ℕ
put at c x old = old % 2 ^ at + x * 2 ^ at + old / 2 ^ (at + c) * 2 ^ (at + c)

regroup : (lo x hi p q : ℕ) → lo + x * p + hi * (p * q) ≡ (hi * q + x) * p + lo
regroup lo x hi p q = omega arith

put_is : (at c x old : ℕ) → put at c x old ≡ (old / 2 ^ (at + c) * 2 ^ c + x) * 2 ^ at + old % 2 ^ at
put_is at c x old =
    let h : ℕ = old / 2 ^ (at + c) in
    ap (λ p. old % 2 ^ at + x * 2 ^ at + old / 2 ^ (at + c) * p) (pow-add 2 at c)
    ∙ regroup (old % 2 ^ at) x (old / 2 ^ (at + c)) (2 ^ at) (2 ^ c)

pub put_below : (at c x old : ℕ) → put at c x old % 2 ^ at ≡ old % 2 ^ at
put_below at c x old =
    ap (λ n. n % 2 ^ at) (put_is at c x old)
    ∙ mod_low (old / 2 ^ (at + c) * 2 ^ c + x) at (old % 2 ^ at) (below_room old at)

pub put_inside : (at c x old : ℕ) → x < 2 ^ c → put at c x old / 2 ^ at % 2 ^ c ≡ x
put_inside at c x old h =
    ap (λ n. n / 2 ^ at % 2 ^ c) (put_is at c x old)
    ∙ ap (λ n. n % 2 ^ c) (shr_high (old / 2 ^ (at + c) * 2 ^ c + x) at (old % 2 ^ at) (below_room old at))
    ∙ mod_low (old / 2 ^ (at + c)) c x h

swapped : (lo m h : ℕ) → lo + m + h ≡ h + (lo + m)
swapped lo m h = omega arith

pub put_above : (at c x old : ℕ) → x < 2 ^ c → put at c x old / 2 ^ (at + c) ≡ old / 2 ^ (at + c)
put_above at c x old h =
    let small : old % 2 ^ at + x * 2 ^ at < 2 ^ (at + c) = omega (arith, below_room old at, shifted_room x at c h) in
    ap (λ n. n / 2 ^ (at + c)) (swapped (old % 2 ^ at) (x * 2 ^ at) (old / 2 ^ (at + c) * 2 ^ (at + c)))
    ∙ shr_high (old / 2 ^ (at + c)) (at + c) (old % 2 ^ at + x * 2 ^ at) small

-- a bit of the low part, and of the high part, of a number
low_bit : (n j i : ℕ) → bit_at (n % 2 ^ ((j + 1) + i)) i ≡ bit_at n i
low_bit n j i = ap (λ m. m % 2) (field_of n (j + 1) i) ∙ mod-mod-pow (n / 2 ^ i) j 1

pub bit_below : (n k i : ℕ) → i < k → bit_at (n % 2 ^ k) i ≡ bit_at n i
bit_below n k i h =
    let e : ((k - i - 1) + 1) + i ≡ k = omega arith in
    subst (λ m. bit_at (n % 2 ^ m) i ≡ bit_at n i) e (low_bit n (k - i - 1) i)

pub bit_above : (n k i : ℕ) → bit_at (n / 2 ^ k) i ≡ bit_at n (k + i)
bit_above n k i = ap (λ m. m % 2) (shr-shr n k i)

-- the bits of a number into which the bits of v from low on are put
pub bit_put_below : (at c x old i : ℕ) → i < at → bit_at (put at c x old) i ≡ bit_at old i
bit_put_below at c x old i h =
    sym (bit_below (put at c x old) at i h)
    ∙ ap (λ n. bit_at n i) (put_below at c x old)
    ∙ bit_below old at i h

above_from : (at c x old j : ℕ) → x < 2 ^ c → bit_at (put at c x old) ((at + c) + j) ≡ bit_at old ((at + c) + j)
above_from at c x old j h =
    sym (bit_above (put at c x old) (at + c) j)
    ∙ ap (λ n. bit_at n j) (put_above at c x old h)
    ∙ bit_above old (at + c) j

pub bit_put_above : (at c x old i : ℕ) → x < 2 ^ c → at + c ≤ i → bit_at (put at c x old) i ≡ bit_at old i
bit_put_above at c x old i h le =
    let e : (at + c) + (i - (at + c)) ≡ i = omega arith in
    subst (λ m. bit_at (put at c x old) m ≡ bit_at old m) e (above_from at c x old (i - (at + c)) h)

inside_from : (at c low v old j : ℕ) → j < c → bit_at (put at c (v / 2 ^ low % 2 ^ c) old) (at + j) ≡ bit_at v (low + j)
inside_from at c low v old j h =
    sym (bit_above (put at c (v / 2 ^ low % 2 ^ c) old) at j)
    ∙ sym (bit_below (put at c (v / 2 ^ low % 2 ^ c) old / 2 ^ at) c j h)
    ∙ ap (λ n. bit_at n j) (put_inside at c (v / 2 ^ low % 2 ^ c) old (below_room (v / 2 ^ low) c))
    ∙ bit_below (v / 2 ^ low) c j h
    ∙ bit_above v low j

pub bit_put_inside : (at c low v old i : ℕ) → at ≤ i → i < at + c
    → bit_at (put at c (v / 2 ^ low % 2 ^ c) old) i ≡ bit_at v (low + (i - at))
bit_put_inside at c low v old i le lt =
    let e : at + (i - at) ≡ i = omega arith in
    let h : i - at < c = omega arith in
    subst (λ m. bit_at (put at c (v / 2 ^ low % 2 ^ c) old) m ≡ bit_at v (low + (i - at))) e
    (inside_from at c low v old (i - at) h)
