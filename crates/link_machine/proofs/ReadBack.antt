-- What is read back from a field.
use Rattle.std.proofs.Common.{◌≡◌, ℕ, ℤ, pos, negsuc, ◌+◌, ◌-◌, ◌*◌, ◌/◌, ◌%◌, ◌^◌, ◌<◌, ◌≤◌, true, arith, subst, sym, ap, ◌∙◌}
use Rattle.std.proofs.lemmas.Nat.{pow-add, mod_low, pow_pos, shr-shr, mod-pow-add, shr_split, shr_below}
use Rattle.std.proofs.Math.Pow.{mod-mod-pow}
use Rattle.link_machine.specs.Patch.{with_bits, modulo, count_of, taken, is_sound, are_sound}
use Rattle.link_machine.specs.Laws.{run_read, field_read, lowest, is_joined, IsReadBack}
use Rattle.link_machine.specs.declared.rule.Bits.{Bits}
use Rattle.link_machine.specs.declared.rule.Field.{Field}
use Rattle.link_machine.specs.declared.rule.Field.TheVariants.{Unchanged, One, Two}
use Rattle.link_machine.proofs.Runs.{below_room}
use Rattle.link_machine.proofs.PutRuns.{put_inside, put_above}

-- modulo 2^64 and then modulo a smaller power is modulo that power
shorter : (n j k : ℕ) → n % 2 ^ (j + k) % 2 ^ k ≡ n % 2 ^ k
shorter n j k = mod-mod-pow n j k

-- p m - 1 less q m + r, where p is q + 1 + s: the quotient is s
complement : (s q r m : ℕ) → r < m → ((q + 1 + s) * m - 1) - (q * m + r) ≡ s * m + (m - 1 - r)
complement s q r m h = omega arith

complement_at : (s q r k : ℕ) → r < 2 ^ k → (((q + 1 + s) * 2 ^ k - 1) - (q * 2 ^ k + r)) % 2 ^ k ≡ 2 ^ k - 1 - r
complement_at s q r k h =
    let low : 2 ^ k - 1 - r < 2 ^ k = omega (arith, pow_pos k) in
    ap (λ x. x % 2 ^ k) (complement s q r (2 ^ k) h) ∙ mod_low s k (2 ^ k - 1 - r) low

complement_mod : (a j k : ℕ) → a < 2 ^ (j + k) → (2 ^ (j + k) - 1 - a) % 2 ^ k ≡ 2 ^ k - 1 - a % 2 ^ k
complement_mod a j k h =
    let small : a / 2 ^ k < 2 ^ j = shr_below a j k h in
    let whole : a / 2 ^ k + 1 + (2 ^ j - 1 - a / 2 ^ k) ≡ 2 ^ j = omega arith in
    let whole' : (a / 2 ^ k + 1 + (2 ^ j - 1 - a / 2 ^ k)) * 2 ^ k ≡ 2 ^ (j + k) =
    ap (λ x. x * 2 ^ k) whole ∙ sym (pow-add 2 j k) in
    let parts : a / 2 ^ k * 2 ^ k + a % 2 ^ k ≡ a = shr_split a k in
    sym (ap (λ x. (x - 1 - (a / 2 ^ k * 2 ^ k + a % 2 ^ k)) % 2 ^ k) whole' ∙ ap (λ x. (2 ^ (j + k) - 1 - x) % 2 ^ k) parts)
    ∙ complement_at (2 ^ j - 1 - a / 2 ^ k) (a / 2 ^ k) (a % 2 ^ k) k (below_room a k)

wrapped : (z : ℤ) (j k : ℕ) → modulo z (2 ^ (j + k)) % 2 ^ k ≡ modulo z (2 ^ k)
wrapped (pos n) j k = shorter n j k
wrapped (negsuc n) j k =
    complement_mod (n % 2 ^ (j + k)) j k (below_room n (j + k)) ∙ ap (λ x. 2 ^ k - 1 - x) (shorter n j k)

wrapped_64 : (z : ℤ) (k : ℕ) → k ≤ 64 → modulo z (2 ^ 64) % 2 ^ k ≡ modulo z (2 ^ k)
wrapped_64 z k le =
    let e : (64 - k) + k ≡ 64 = omega arith in
    subst (λ w. modulo z (2 ^ w) % 2 ^ k ≡ modulo z (2 ^ k)) e (wrapped z (64 - k) k)

-- a run holds the bits that were put
run_put : (b : Bits) (v old : ℕ) → run_read b (with_bits b v old) ≡ taken b v * 2 ^ b.low
run_put b v old =
    ap (λ x. x * 2 ^ b.low) (put_inside b.at (count_of b) (taken b v) old (below_room (v / 2 ^ b.low) (count_of b)))

same_above : (n m k j : ℕ) → n / 2 ^ k ≡ m / 2 ^ k → n / 2 ^ (k + j) ≡ m / 2 ^ (k + j)
same_above n m k j e = sym (shr-shr n k j) ∙ ap (λ x. x / 2 ^ j) e ∙ shr-shr m k j

same_from : (n m k at : ℕ) → n / 2 ^ k ≡ m / 2 ^ k → k ≤ at → n / 2 ^ at ≡ m / 2 ^ at
same_from n m k at e le =
    let s : k + (at - k) ≡ at = omega arith in subst (λ x. n / 2 ^ x ≡ m / 2 ^ x) s (same_above n m k (at - k) e)

-- and it keeps them where a run below it is put
run_kept : (b c : Bits) (v old : ℕ) → c.at + count_of c ≤ b.at → run_read b (with_bits c v old) ≡ run_read b old
run_kept b c v old le =
    ap (λ x. x % 2 ^ count_of b * 2 ^ b.low)
    (same_from (with_bits c v old) old (c.at + count_of c) b.at
    (put_above c.at (count_of c) (taken c v) old (below_room (v / 2 ^ c.low) (count_of c))) le)

-- the bits from l on, where there are none below l
low_part : (v l n : ℕ) → v % 2 ^ l ≡ 0 → v / 2 ^ l % 2 ^ n * 2 ^ l ≡ v % 2 ^ (l + n)
low_part v l n h =
    let e : n + l ≡ l + n = omega arith in
    let m : v % 2 ^ (n + l) ≡ v / 2 ^ l % 2 ^ n * 2 ^ l + v % 2 ^ l = mod-pow-add v n l in
    let s : v % 2 ^ (n + l) ≡ v % 2 ^ (l + n) = ap (λ x. v % 2 ^ x) e in
    omega (arith, h, m, s)

next_part : (v l n k : ℕ) → v % 2 ^ l ≡ 0
    → v / 2 ^ l % 2 ^ n * 2 ^ l + v / 2 ^ (l + n) % 2 ^ k * 2 ^ (l + n) ≡ v % 2 ^ ((l + n) + k)
next_part v l n k h =
    let e : k + (l + n) ≡ (l + n) + k = omega arith in
    let m : v % 2 ^ (k + (l + n)) ≡ v / 2 ^ (l + n) % 2 ^ k * 2 ^ (l + n) + v % 2 ^ (l + n) = mod-pow-add v k (l + n) in
    let s : v % 2 ^ (k + (l + n)) ≡ v % 2 ^ ((l + n) + k) = ap (λ x. v % 2 ^ x) e in
    omega (arith, low_part v l n h, m, s)

sound_end : (b : Bits) → are_sound 8 b ≡ true → b.low + count_of b ≤ 64
sound_end b s = grind arith

joined_low : (b c : Bits) → is_joined (Two b c) ≡ true → b.low + count_of b ≡ c.low
joined_low b c s = grind arith

joined_at : (b c : Bits) → is_joined (Two b c) ≡ true → c.at + count_of c ≤ b.at
joined_at b c s = grind arith

two_read : (b c : Bits) (v old : ℕ) → c.at + count_of c ≤ b.at
    → field_read (Two b c) (with_bits c v (with_bits b v old)) ≡ taken b v * 2 ^ b.low + taken c v * 2 ^ c.low
two_read b c v old le =
    let eb : run_read b (with_bits c v (with_bits b v old)) ≡ taken b v * 2 ^ b.low =
    run_kept b c v (with_bits b v old) le ∙ run_put b v old in
    let ec : run_read c (with_bits c v (with_bits b v old)) ≡ taken c v * 2 ^ c.low = run_put c v (with_bits b v old) in
    ap (λ x. x + run_read c (with_bits c v (with_bits b v old))) eb ∙ ap (λ x. taken b v * 2 ^ b.low + x) ec

pub read_back : (f : Field) (z : ℤ) (old : ℕ) → is_sound 8 f ≡ true → is_joined f ≡ true → modulo z (2 ^ lowest f) ≡ 0 → IsReadBack f z old
read_back Unchanged z old s j h = sym h
read_back (One b) z old s j h =
    let le : b.low + count_of b ≤ 64 = sound_end b s in
    let l : b.low ≤ 64 = omega arith in
    run_put b (modulo z (2 ^ 64)) old
    ∙ low_part (modulo z (2 ^ 64)) b.low (count_of b) (wrapped_64 z b.low l ∙ h)
    ∙ wrapped_64 z (b.low + count_of b) le
read_back (Two b c) z old s j h =
    let sb : are_sound 8 b ≡ true = grind arith in
    let sc : are_sound 8 c ≡ true = grind arith in
    let lb : b.low ≤ 64 = omega (arith, sound_end b sb) in
    let e : b.low + count_of b ≡ c.low = joined_low b c j in
    two_read b c (modulo z (2 ^ 64)) old (joined_at b c j)
    ∙ subst
    (λ x. modulo z (2 ^ 64) / 2 ^ b.low % 2 ^ count_of b * 2 ^ b.low + modulo z (2 ^ 64) / 2 ^ x % 2 ^ count_of c * 2 ^ x
    ≡ modulo z (2 ^ 64) % 2 ^ (x + count_of c))
    e
    (next_part (modulo z (2 ^ 64)) b.low (count_of b) (count_of c) (wrapped_64 z b.low lb ∙ h))
    ∙ wrapped_64 z (c.low + count_of c) (sound_end c sc)
