-- A number of k bits, with a sign or without, is known by what it is modulo 2^k.
use Rattle.std.proofs.Common.{◌≡◌, ℕ, ℤ, zero, suc, pos, negsuc, neg_ℤ, ◌-ℤ◌, ◌+◌, ◌-◌, ◌*◌, ◌%◌, ◌^◌, ◌<◌, Bool, true, false, refl, arith, ap, ◌∙◌}
use Rattle.std.specs.Prelude.{int_le, int_lt, nat_lt, if◌then◌else◌, ◌&&◌}
use Rattle.std.proofs.lemmas.Int.{ints}
use Rattle.std.proofs.lemmas.Nat.{pow-add}
use Rattle.std.proofs.Math.Nat.{mod-eq_of_lt}
use Rattle.link_machine.specs.Patch.{is_within, modulo, patched}
use Rattle.link_machine.specs.Table.{signed, unsigned}
use Rattle.link_machine.specs.Laws.{with_sign, field_read, IsReadBack, top}
use Rattle.link_machine.specs.declared.rule.Field.{Field}

first_holds : (a b : Bool) → a && b ≡ true → a ≡ true
first_holds true b h = refl
first_holds false b h = h

second_holds : (a b : Bool) → a && b ≡ true → b ≡ true
second_holds true b h = h
second_holds false b h = cc

not_less : (m n : ℕ) → int_le (neg_ℤ (pos m)) (negsuc n) ≡ true → n < m
not_less zero n h = cc
not_less (suc m) n h = grind arith

double : (k : ℕ) → 0 < k → 2 ^ (k - 1) + 2 ^ (k - 1) ≡ 2 ^ k
double k h =
    let e : (k - 1) + 1 ≡ k = omega arith in
    let d : 2 ^ ((k - 1) + 1) ≡ 2 ^ (k - 1) * 2 = pow-add 2 (k - 1) 1 in
    let s : 2 ^ ((k - 1) + 1) ≡ 2 ^ k = ap (λ x. 2 ^ x) e in
    omega (arith, d, s)

above_zero : (h p n : ℕ) → n < h → h + h ≡ p → (if nat_lt (n % p) h then pos (n % p) else pos (n % p) -ℤ pos p) ≡ pos n
above_zero h p n less e =
    let small : n < p = omega arith in
    let same : n % p ≡ n = mod-eq_of_lt small in
    let test : nat_lt n h ≡ true = grind arith in
    rw same (rw test refl)

turned : (p n : ℕ) → n < p → pos (p - 1 - n) -ℤ pos p ≡ negsuc n
turned p n h = omega (arith, ints)

below_zero : (h p n : ℕ) → n < h → h + h ≡ p
    → (if nat_lt (p - 1 - n % p) h then pos (p - 1 - n % p) else pos (p - 1 - n % p) -ℤ pos p) ≡ negsuc n
below_zero h p n less e =
    let small : n < p = omega arith in
    let same : n % p ≡ n = mod-eq_of_lt small in
    let test : nat_lt (p - 1 - n) h ≡ false = grind arith in
    rw same (rw test (turned p n small))

signed_known : (k : ℕ) (z : ℤ) → 0 < k → is_within (signed k) z ≡ true → with_sign k (modulo z (2 ^ k)) ≡ z
signed_known k (pos n) h w =
    let t : int_lt (pos n) (pos (2 ^ (k - 1))) ≡ true =
    second_holds (int_le (neg_ℤ (pos (2 ^ (k - 1)))) (pos n)) (int_lt (pos n) (pos (2 ^ (k - 1)))) w in
    above_zero (2 ^ (k - 1)) (2 ^ k) n (grind arith) (double k h)
signed_known k (negsuc n) h w =
    let t : int_le (neg_ℤ (pos (2 ^ (k - 1)))) (negsuc n) ≡ true =
    first_holds (int_le (neg_ℤ (pos (2 ^ (k - 1)))) (negsuc n)) (int_lt (negsuc n) (pos (2 ^ (k - 1)))) w in
    below_zero (2 ^ (k - 1)) (2 ^ k) n (not_less (2 ^ (k - 1)) n t) (double k h)

unsigned_known : (k : ℕ) (z : ℤ) → is_within (unsigned k) z ≡ true → pos (modulo z (2 ^ k)) ≡ z
unsigned_known k (pos n) w =
    let small : n < 2 ^ k = grind arith in
    ap (λ x. pos x) (mod-eq_of_lt small)
unsigned_known k (negsuc n) w = cc

pub signed_read : (f : Field) (z : ℤ) (old : ℕ) → IsReadBack f z old → 0 < top f → is_within (signed (top f)) z ≡ true
    → with_sign (top f) (field_read f (patched f z old)) ≡ z
signed_read f z old e h w = ap (with_sign (top f)) e ∙ signed_known (top f) z h w

pub unsigned_read : (f : Field) (z : ℤ) (old : ℕ) → IsReadBack f z old → is_within (unsigned (top f)) z ≡ true
    → pos (field_read f (patched f z old)) ≡ z
unsigned_read f z old e w = ap (λ x. pos x) e ∙ unsigned_known (top f) z w
