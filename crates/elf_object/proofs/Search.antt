-- What a search over places found, and what it says where it found none.
use Rattle.std.proofs.Common.{◌≡◌, ℕ, zero, suc, ◌+◌, ◌-◌, ◌<◌, ◌≤◌, Bool, true, false, cond, Some, None, inl, inr, refl, sym, ap, subst, arith}
use Rattle.std.specs.Prelude.{is_some, unwrap_or}
use Rattle.std.specs.List.{find, range_with_len}
use Rattle.std.proofs.lemmas.Bool.{false≢true, cases_lt}
use Rattle.ifs_bytes.specs.Places.{places}

pub record Found (p : ℕ → Bool) (from end i : ℕ) : Type 0 where
  pub from_there : from ≤ i
  pub below : i < end
  pub passes : p i ≡ true

found_from : (p : ℕ → Bool) (a n i : ℕ) → find p (range_with_len a n) ≡ Some i → Found p a (a + n) i
found_from p a zero i h = absurd (false≢true (ap is_some h))
found_from p a (suc n) i h = by (p a) refl h (λ e. found_from p (a + 1) n i e)
  where
    by : (b : Bool) → p a ≡ b → cond b (Some a) (find p (range_with_len (a + 1) n)) ≡ Some i
        → (find p (range_with_len (a + 1) n) ≡ Some i → Found p (a + 1) (a + 1 + n) i) → Found p a (a + suc n) i
    by true passes e later =
        let same : a ≡ i = ap (λ o. unwrap_or o 0) e in
        record { from_there = omega (arith, same); below = omega (arith, same); passes = subst (λ j. p j ≡ true) same passes }
    by false fails e later =
        let r = later e in
        record { from_there = omega (arith, r.from_there); below = omega (arith, r.below); passes = r.passes }

none_from : (p : ℕ → Bool) (a n i : ℕ) → find p (range_with_len a n) ≡ None → a ≤ i → i < a + n → p i ≡ false
none_from p a zero i h le lt = absurd (omega (arith, le, lt))
none_from p a (suc n) i h le lt = by (p a) refl h (λ e from below. none_from p (a + 1) n i e from below)
  where
    by : (b : Bool) → p a ≡ b → cond b (Some a) (find p (range_with_len (a + 1) n)) ≡ None
        → (find p (range_with_len (a + 1) n) ≡ None → a + 1 ≤ i → i < a + 1 + n → p i ≡ false) → p i ≡ false
    by true passes e later = absurd (false≢true (sym (ap is_some e)))
    by false fails e later = elim (cases_lt a i) as (λ _. p i ≡ false) [
      | inl behind ↦ later e (omega (arith, behind)) (omega (arith, lt))
      | inr here ↦ (let same : a ≡ i = omega (arith, here, le) in subst (λ j. p j ≡ false) same fails)
    ]

pub found : (p : ℕ → Bool) (n i : ℕ) → find p (places 0 n) ≡ Some i → Found p 0 n i
found p n i h =
    let r = found_from p 0 (n - 0) i h in
    record { from_there = omega arith; below = omega (arith, r.below); passes = r.passes }

pub none_found : (p : ℕ → Bool) (n i : ℕ) → find p (places 0 n) ≡ None → i < n → p i ≡ false
none_found p n i h lt = none_from p 0 (n - 0) i h (omega arith) (omega (arith, lt))
