-- What an index finds is where things stand.
use Rattle.std.proofs.Common.{arith, zero, suc, ◌≡◌, ◌≤◌, ◌<◌, ℕ, ◌+◌, ◌==◌, nat_lt, Bool, cond, not, List, [], ◌∷◌, length, take, get_or, position, Some, None, refl, sym, ◌∙◌}
use Rattle.std.specs.List.{position_or_len}
use Rattle.link_core.specs.declared.plan.GotSlot.{GotSlot}
use Rattle.link_core.specs.contracts.plan.GotSlotPartialEq.TheImpl.{eq-value}
use Rattle.link_core.specs.Plan.{same_slot}
use Rattle.link_needs.proofs.Slots.{slots}
use Rattle.link_tables.specs.Fills.{slot_words, words_in}
use Rattle.link_index.specs.Index.{starts_from}
use Rattle.std.proofs.Math.Path.{fun_ext}
use Rattle.std.proofs.lemmas.List.Sums.{prefix_len-le-length, sum_by-cons}

some_at : (n l i : ℕ) → n ≤ l → cond (nat_lt n l) (Some n) None ≡ Some i → n ≡ i
some_at n l i le e = grind (arith)

none_at : (n l : ℕ) → n ≤ l → cond (nat_lt n l) (Some n) None ≡ None → n ≡ l
none_at n l le e = grind (arith)

module _ {K : Type 0} (p : K → Bool) (items : List K) where
  pub found : (i : ℕ) → position p items ≡ Some i → i ≡ position_or_len p items
  found i e = sym (some_at _ _ i (prefix_len-le-length (λ x. not (p x)) items) e)

  pub missing : position p items ≡ None → length items ≡ position_or_len p items
  missing e = sym (none_at _ _ (prefix_len-le-length (λ x. not (p x)) items) e)

-- equality of numbers from either side
turned : (n m : ℕ) → (n == m) ≡ (m == n)
turned n m = grind (arith)

abbrev numbers_equal : ℕ → ℕ → Bool
numbers_equal n m = n == m

abbrev numbers_turned : ℕ → ℕ → Bool
numbers_turned n m = m == n

pub same_numbers : numbers_equal ≡ numbers_turned
same_numbers = fun_ext (λ n. fun_ext (λ m. turned n m))

-- slots are the same as their derived comparison says
pub same_slots : (eq-value).it ≡ same_slot
same_slots = fun_ext (λ x. fun_ext (λ y. slots x y))

-- what stands before a slot
nth_start : (at : ℕ) (got : List GotSlot) (i d : ℕ) → i ≤ length got → get_or (starts_from at got) i d ≡ at + words_in (take i got)
nth_start at [] zero d le = omega (arith)
nth_start at [] (suc i) d le = absurd (omega (arith, le))
nth_start at (g ∷ gs) zero d le = omega (arith)
nth_start at (g ∷ gs) (suc i) d le =
    let more : words_in (take (suc i) (g ∷ gs)) ≡ slot_words g.slot + words_in (take i gs) = sum_by-cons (λ x. slot_words x.slot) g (take i gs) in
    nth_start (at + slot_words g.slot) gs i d (omega (arith, le)) ∙ omega (arith, more)

pub first_start : (got : List GotSlot) (i d : ℕ) → i ≤ length got → get_or (starts_from 0 got) i d ≡ words_in (take i got)
first_start got i d le = let at = nth_start 0 got i d le in omega (arith, at)

starts_count : (at : ℕ) (got : List GotSlot) → length (starts_from at got) ≡ length got + 1
starts_count at [] = refl
starts_count at (g ∷ gs) = let rest = starts_count (at + slot_words g.slot) gs in omega (arith, rest)

pub place_within : (p : GotSlot → Bool) (got : List GotSlot) → position_or_len p got < length (starts_from 0 got)
place_within p got =
    let within = prefix_len-le-length (λ x. not (p x)) got in let count = starts_count 0 got in omega (arith, within, count)
