-- How far the next NUL is from the places of a table.
use Rattle.std.proofs.Common.{◌≡◌, ℕ, zero, suc, ◌+◌, ◌-◌, ◌*◌, ◌<◌, ◌≤◌, Bool, true, false, not, cond, ltb, leb, List, [], ◌∷◌, ◌++◌, length, take, drop, get_or, slice_index, min, Option, Some, None, inl, inr, refl, sym, ap, ◌∙◌, arith}
use Rattle.std.specs.Prelude.{◌==◌, is_some, is_none}
use Rattle.std.specs.List.{position_or_len}
use Rattle.std.specs.Option.{option_map}
use Rattle.std.proofs.lemmas.Bool.{false≢true, lt-ltb, le-ltb, le-leb, lt-leb, ltb-true, false_from_ne_true, cases_lt}
use Rattle.std.proofs.lemmas.List.{get_or-drop, get_or_append_left, get_or_push, get_or_past, length-drop, length-take-le, take-append-drop, drop-drop, drop_all}
use Rattle.std.proofs.lemmas.List.Sums.{position_or_len_is, prefix_len-le-length, fails_before_first}
use Rattle.memchr.specs.Find.{IsFirstByte, IsLastByte, is_byte}
use Rattle.ifs_bytes.specs.Name.{name_in}
use Rattle.elf_dyn.specs.NameEnds.{StartBefore, AreFar, distance}
use Rattle.elf_dyn.specs.Strings.{bytes_of, unless_empty}

abbrev is_nul : ℕ → Bool
is_nul b = b == 0

abbrev pub nul : List ℕ → ℕ
nul xs = position_or_len (λ b. b == 0) xs

pub nul_within : (xs : List ℕ) → nul xs ≤ length xs
nul_within xs = prefix_len-le-length (λ b. not (b == 0)) xs

fails : (b : Bool) → (b ≡ true → ⊥) → b ≡ false
fails b h = false_from_ne_true b h

-- ---- what memchr answers

pub nul_found : (xs : List ℕ) (place : ℕ) → IsFirstByte (is_byte 0) xs (Some place) → place ≡ nul xs
nul_found xs place h = sym (position_or_len_is (is_byte 0) xs place 0 (omega (arith, h.0.high)) (λ k lt. fails _ (h.0.before k (omega arith) lt)) (λ lt. h.1))

pub nul_missed : (xs : List ℕ) → IsFirstByte (is_byte 0) xs None → length xs ≡ nul xs
nul_missed xs h = sym (position_or_len_is (is_byte 0) xs (length xs) 0 (omega arith) (λ k lt. fails _ (h k (omega arith) lt)) (λ lt. absurd (omega arith)))

-- ---- a name starts where a NUL follows

some_before : (n len : ℕ) (f : ℕ → List ℕ) → is_some (option_map f (cond (ltb n len) (Some n) None)) ≡ ltb n len
some_before n len f = by (ltb n len)
  where
    by : (b : Bool) → is_some (option_map f (cond b (Some n) None)) ≡ b
    by true = refl
    by false = refl

starts_is : (table : List ℕ) (at : ℕ) → is_some (name_in table at) ≡ ltb (nul (drop at table)) (length (drop at table))
starts_is table at = some_before (nul (drop at table)) (length (drop at table)) (λ n. take n (drop at table))

-- no NUL follows
none_follows : (table : List ℕ) (at : ℕ) → ((k : ℕ) → at ≤ k → k < length table → is_nul (get_or table k 0) ≡ false) → is_some (name_in table at) ≡ false
none_follows table at h =
    let rest = drop at table in
    let long = length-drop at table in
    let all : nul rest ≡ length rest = position_or_len_is is_nul rest (length rest) 0 (omega arith) (λ k lt. ap is_nul (get_or-drop at table k 0) ∙ h (at + k) (omega arith) (omega (arith, lt, long))) (λ lt. absurd (omega arith)) in
    starts_is table at ∙ le-ltb (nul rest) (length rest) (omega (arith, all))

-- one does
one_follows : (table : List ℕ) (at k : ℕ) → at ≤ k → k < length table → is_nul (get_or table k 0) ≡ true → is_some (name_in table at) ≡ true
one_follows table at k le lt h =
    let rest = drop at table in
    let long = length-drop at table in
    let here : at + (k - at) ≡ k = omega (arith, le) in
    let passes : is_nul (get_or rest (k - at) 0) ≡ true = ap is_nul (get_or-drop at table (k - at) 0) ∙ ap (λ j. is_nul (get_or table j 0)) here ∙ h in
    let most : nul rest ≤ k - at = elim (cases_lt (k - at) (nul rest)) as (λ _. nul rest ≤ k - at) [
      | inl before ↦ absurd (both (fails_before_first is_nul rest (k - at) 0 before) passes)
      | inr h ↦ h
    ] in
    starts_is table at ∙ lt-ltb (nul rest) (length rest) (omega (arith, most, long, le, lt))
  where
    both : {b : Bool} → b ≡ false → b ≡ true → ⊥
    both e f = absurd (false≢true (sym e ∙ f))

none_of : (o : Option (List ℕ)) (b : Bool) → is_some o ≡ b → is_none o ≡ not b
none_of None b h = ap not h
none_of (Some name) b h = ap not h

pub start_behind : (table : List ℕ) (last : ℕ) → IsLastByte (is_byte 0) table (Some last) → StartBefore table (last + 1)
start_behind table last h at = elim (cases_lt last at) as (λ _. is_none (name_in table at) ≡ leb (last + 1) at) [
  | inl behind ↦
      none_of (name_in table at) false (none_follows table at (λ k le lt. fails (is_nul (get_or table k 0)) (h.0.after k (omega (arith, behind, le)) lt)))
      ∙ sym (le-leb (last + 1) at (omega (arith, behind)))
  | inr before ↦
      none_of (name_in table at) true (one_follows table at last before h.0.high h.1)
      ∙ sym (lt-leb (last + 1) at (omega (arith, before)))
]

pub start_nowhere : (table : List ℕ) → IsLastByte (is_byte 0) table None → StartBefore table 0
start_nowhere table h at =
    none_of (name_in table at) false (none_follows table at (λ k le lt. fails (is_nul (get_or table k 0)) (h k (omega arith) lt)))
    ∙ sym (le-leb 0 at (omega arith))

-- ---- how long a name is

some_of : (o : Option (List ℕ)) → is_none o ≡ false → is_some o ≡ true
some_of None h = absurd (false≢true (sym h))
some_of (Some name) h = refl

long_is : (ys : List ℕ) (n : ℕ) (b : Bool) → b ≡ ltb n (length ys) → b ≡ true → bytes_of (option_map (λ n. take n ys) (cond b (Some n) None)) ≡ n
long_is ys n true e h = length-take-le n ys (lt_le (ltb-true n (length ys) (sym e)))
  where
    lt_le : n < length ys → n ≤ length ys
    lt_le h = omega (arith, h)
long_is ys n false e h = absurd (false≢true h)

pub length_at : (table : List ℕ) (at : ℕ) → is_none (name_in table at) ≡ false → bytes_of (name_in table at) ≡ distance table at
unfolding distance
length_at table at h =
    let rest = drop at table in
    long_is rest (nul rest) (ltb (nul rest) (length rest)) refl (sym (starts_is table at) ∙ some_of (name_in table at) h)

none_has_no_bytes : (o : Option (List ℕ)) → is_none o ≡ true → bytes_of o ≡ 0
none_has_no_bytes None h = refl
none_has_no_bytes (Some name) h = absurd (false≢true h)

pub no_length : (table : List ℕ) (at : ℕ) → is_none (name_in table at) ≡ true → bytes_of (name_in table at) ≡ 0
no_length table at h = none_has_no_bytes (name_in table at) h

pub start_within : (table : List ℕ) (at : ℕ) → is_none (name_in table at) ≡ false → at ≤ length table
start_within table at h =
    let rest = drop at table in
    let some : nul rest < length rest = ltb-true (nul rest) (length rest) (sym (starts_is table at) ∙ some_of (name_in table at) h) in
    omega (arith, some, length-drop at table)

-- ---- from one place to a later one

nul_skips : (xs : List ℕ) (n : ℕ) → n ≤ nul xs → nul (drop n xs) + n ≡ nul xs
nul_skips xs zero h = omega arith
nul_skips [] (suc n) h = absurd (omega (arith, h))
nul_skips (x ∷ xs) (suc n) h = by (not (x == 0)) h (nul_skips xs n)
  where
    by : (t : Bool) → suc n ≤ cond t (1 + nul xs) 0 → (n ≤ nul xs → nul (drop n xs) + n ≡ nul xs) → nul (drop n xs) + suc n ≡ cond t (1 + nul xs) 0
    by true h rest = let e = rest (omega (arith, h)) in omega (arith, e)
    by false h rest = absurd (omega (arith, h))

pub distance_skips : (table : List ℕ) (at n : ℕ) → n ≤ distance table at → distance table (at + n) + n ≡ distance table at
unfolding distance
distance_skips table at n h = ap (λ xs. nul xs + n) (sym (drop-drop n at table)) ∙ nul_skips (drop at table) n h

pub distance_within : (table : List ℕ) (at : ℕ) → at ≤ length table → at + distance table at ≤ length table
unfolding distance
distance_within table at h = omega (arith, nul_within (drop at table), length-drop at table, h)

pub distance_past : (table : List ℕ) (at : ℕ) → length table ≤ at → distance table at ≡ 0
unfolding distance
distance_past table at h = ap nul (drop_all at table h)

-- ---- looked for in the front, and then behind it

near_hit : (xs ys : List ℕ) → nul xs < length xs → nul (xs ++ ys) ≡ nul xs
near_hit [] ys h = absurd (omega (arith, h))
near_hit (x ∷ xs) ys h = by (not (x == 0)) h (near_hit xs ys)
  where
    by : (t : Bool) → cond t (1 + nul xs) 0 < length (x ∷ xs) → (nul xs < length xs → nul (xs ++ ys) ≡ nul xs) → cond t (1 + nul (xs ++ ys)) 0 ≡ cond t (1 + nul xs) 0
    by true h rest = ap (λ n. 1 + n) (rest (omega (arith, h)))
    by false h rest = refl

near_missed : (xs ys : List ℕ) → length xs ≤ nul xs → nul (xs ++ ys) ≡ nul xs + nul ys
near_missed [] ys h = omega arith
near_missed (x ∷ xs) ys h = by (not (x == 0)) h (near_missed xs ys)
  where
    by : (t : Bool) → length (x ∷ xs) ≤ cond t (1 + nul xs) 0 → (length xs ≤ nul xs → nul (xs ++ ys) ≡ nul xs + nul ys) → cond t (1 + nul (xs ++ ys)) 0 ≡ cond t (1 + nul xs) 0 + nul ys
    by true h rest = let e = rest (omega (arith, h)) in omega (arith, e)
    by false h rest = absurd (omega (arith, h))

-- near has the first n bytes from a place on
pub found_near : (table near : List ℕ) (at n found : ℕ) → near ≡ take n (drop at table) → found ≡ nul near → found < length near → found ≡ distance table at
unfolding distance
found_near table near at n found is e lt =
    let rest = drop at table in
    e ∙ sym (near_hit near (drop n rest) (omega (arith, e, lt))) ∙ ap nul (ap (λ xs. xs ++ drop n rest) is ∙ take-append-drop n rest)

pub found_far : (table near : List ℕ) (at n found : ℕ) → near ≡ take n (drop at table) → found ≡ nul near → length near ≤ found → found + distance table (at + n) ≡ distance table at
unfolding distance
found_far table near at n found is e past =
    let rest = drop at table in
    ap (λ k. k + nul (drop (at + n) table)) e ∙ ap (λ xs. nul near + nul xs) (sym (drop-drop n at table)) ∙ sym (near_missed near (drop n rest) (omega (arith, e, past))) ∙ ap nul (ap (λ xs. xs ++ drop n rest) is ∙ take-append-drop n rest)

pub found_behind : (table near : List ℕ) (at next found more : ℕ) → at ≤ length table → at < 64 * next → near ≡ take (min (length (drop at table)) (64 * next - at)) (drop at table) → found ≡ nul near → length near ≤ found → more ≡ distance table (64 * next) → found + more ≡ distance table at
found_behind table near at next found more within behind is e past far =
    let long = length-drop at table in
    let n = min (length (drop at table)) (64 * next - at) in
    let same : distance table (at + n) ≡ distance table (64 * next) = elim (cases_lt (length (drop at table)) (64 * next - at)) as (λ _. distance table (at + n) ≡ distance table (64 * next)) [
      | inl short ↦
          distance_past table (at + n) (omega (arith, short, long, within))
          ∙ sym (distance_past table (64 * next) (omega (arith, short, long, within)))
      | inr le ↦ (let to : at + n ≡ 64 * next = omega (arith, le, behind) in ap (distance table) to)
    ] in
    ap (λ k. found + k) (far ∙ sym same) ∙ found_far table near at n found is e past

-- ---- every 64th place

-- the next NUL of an earlier place is that of a later one, which it doesn't come before
pub still_found : (table : List ℕ) (from next found : ℕ) → from ≤ next → found ≡ from + distance table from → next ≤ found → found ≡ next + distance table next
still_found table from next found le is h =
    let n = next - from in
    let at : from + n ≡ next = omega (arith, le) in
    let skipped = distance_skips table from n (omega (arith, is, h, le)) in
    let there : distance table (from + n) ≡ distance table next = ap (distance table) at in
    omega (arith, is, le, skipped, there)

pub one_more : (table far new : List ℕ) (k found : ℕ) → new ≡ far ++ found ∷ [] → length far ≡ k → found ≡ distance table (64 * k) → ((j : ℕ) → j < k → slice_index far j ≡ distance table (64 * j)) → (j : ℕ) → j < k + 1 → slice_index new j ≡ distance table (64 * j)
one_more table far new k found is long here so_far j lt = elim (cases_lt j k) as (λ _. slice_index new j ≡ distance table (64 * j)) [
  | inl before ↦ ap (λ xs. slice_index xs j) is ∙ get_or_append_left far (found ∷ []) 0 j (omega (arith, before, long)) ∙ so_far j before
  | inr past ↦
      (let e : j ≡ length far = omega (arith, past, lt, long) in
      ap (λ xs. slice_index xs j) is ∙ ap (λ i. slice_index (far ++ found ∷ []) i) e ∙ get_or_push far found 0 (length far) refl ∙ here ∙ ap (λ i. distance table (64 * i)) (sym long ∙ sym e))
]

pub all_far : (table far : List ℕ) (count : ℕ) → length far ≡ count → length table < 64 * count → ((j : ℕ) → j < count → slice_index far j ≡ distance table (64 * j)) → AreFar table far
all_far table far count long past so_far k = elim (cases_lt k count) as (λ _. slice_index far k ≡ distance table (64 * k)) [
  | inl lt ↦ so_far k lt
  | inr behind ↦ get_or_past far k 0 (omega (arith, behind, long)) ∙ sym (distance_past table (64 * k) (omega (arith, behind, past)))
]

-- a name that is dropped because it's empty had no bytes
pub empty_has_none : (o : Option (List ℕ)) → bytes_of (unless_empty o) ≡ bytes_of o
empty_has_none None = refl
empty_has_none (Some []) = refl
empty_has_none (Some (b ∷ bs)) = refl
