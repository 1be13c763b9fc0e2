-- The rows of the buckets, linked from the last name to the first.
use Rattle.std.proofs.Common.{◌≡◌, ℕ, suc, replicate, subst₂, ◌+◌, ◌-◌, ◌<◌, ◌≤◌, Bool, true, false, cond, List, [], ◌∷◌, ◌++◌, map, length, get_or, drop, Some, None, inl, inr, sym, ap, ◌∙◌, arith, add-zero, zero-add}
use Rattle.std.specs.Prelude.{◌%◌, ◌==◌, nat_lt, not, slice_set, slice_index_or}
use Rattle.std.specs.List.{position, position_or_len, range_with_len, enumerate_from}
use Rattle.std.specs.Option.{option_map_or}
use Rattle.std.proofs.lemmas.Bool.{cases_eq, cases_lt, eq-eqb, ne_eqb, lt-ltb, le-ltb}
use Rattle.std.proofs.lemmas.List.{at_drop_more, drop_all, length-replicate, get_or-replicate, length-set, get_or-set_other, ext_get_or, get_or-map, length-map}
use Rattle.std.proofs.lemmas.List.FromFn.{get_or-enumerate_from, length-enumerate_from, get_or-map-range_with_len, length-map-range_with_len}
use Rattle.std.proofs.lemmas.Grind.{get_or-set_at}
use Rattle.link_core.specs.HashTable.{bucket_of, bucket_word, hash_of, hash_words, next_in_bucket}
use Rattle.link_hash.specs.Chained.{Chained, names_of}
use denote.Ref.{Bor}

-- ---- the first place that passes, counted from some row on

abbrev row_at : ℕ → ℕ → ℕ → ℕ
row_at from n len = option_map_or (λ i. from + i) (cond (nat_lt n len) (Some n) None) 0

row_within : (from n len : ℕ) → n < len → row_at from n len ≡ from + n
row_within from n len lt = ap (λ b. option_map_or (λ i. from + i) (cond b (Some n) None) 0) (lt-ltb n len lt)

row_past : (from n len : ℕ) → len ≤ n → row_at from n len ≡ 0
row_past from n len le = ap (λ b. option_map_or (λ i. from + i) (cond b (Some n) None) 0) (le-ltb n len le)

row_later : (from n len : ℕ) → row_at from (1 + n) (suc len) ≡ row_at (from + 1) n len
row_later from n len =
    elim (cases_lt n len) [
      | inl lt ↦
          (let e : from + (1 + n) ≡ from + 1 + n = omega arith in
          row_within from (1 + n) (suc len) (omega arith) ∙ e ∙ sym (row_within (from + 1) n len lt))
      | inr le ↦ row_past from (1 + n) (suc len) (omega arith) ∙ sym (row_past (from + 1) n len (omega arith))
    ]

module _ {X : Type 0} (p : X → Bool) where
  abbrev row_from : ℕ → List X → ℕ
  row_from from xs = option_map_or (λ i. from + i) (position p xs) 0

  here : (from : ℕ) (x : X) (xs : List X) → p x ≡ true → row_from from (x ∷ xs) ≡ from
  here from x xs e =
      ap (λ b. row_at from (cond (not b) (1 + position_or_len p xs) 0) (suc (length xs))) e
      ∙ row_within from 0 (suc (length xs)) (omega arith)
      ∙ add-zero from

  later : (from : ℕ) (x : X) (xs : List X) → p x ≡ false → row_from from (x ∷ xs) ≡ row_from (from + 1) xs
  later from x xs e =
      ap (λ b. row_at from (cond (not b) (1 + position_or_len p xs) 0) (suc (length xs))) e
      ∙ row_later from (position_or_len p xs) (length xs)

-- ---- a bucket's first row from name i on

module _ (names : List (List ℕ)) where
  abbrev in_bucket : ℕ → List ℕ → Bool
  in_bucket b name = bucket_of names name == b

  next_at : (b i : ℕ) → next_in_bucket names b (i + 1) ≡ row_from (in_bucket b) (i + 1) (drop i names)
  unfolding next_in_bucket
  next_at b i =
      let e : i + 1 - 1 ≡ i = omega arith in
      ap (λ (n : ℕ). row_from (in_bucket b) (i + 1) (drop n names)) e

  next_here : (b i : ℕ) → i < length names → bucket_of names (get_or names i []) ≡ b → next_in_bucket names b (i + 1) ≡ i + 1
  next_here b i lt e =
      let F : List (List ℕ) → ℕ = λ xs. row_from (in_bucket b) (i + 1) xs in
      next_at b i ∙ at_drop_more F names i [] lt
      ∙ here (in_bucket b) (i + 1) (get_or names i []) (drop (i + 1) names) (eq-eqb (bucket_of names (get_or names i [])) b e)

  next_later : (b i : ℕ) → i < length names → (bucket_of names (get_or names i []) ≡ b → ⊥) → next_in_bucket names b (i + 1) ≡ next_in_bucket names b (i + 1 + 1)
  next_later b i lt e =
      let F : List (List ℕ) → ℕ = λ xs. row_from (in_bucket b) (i + 1) xs in
      next_at b i ∙ at_drop_more F names i [] lt
      ∙ later (in_bucket b) (i + 1) (get_or names i []) (drop (i + 1) names) (ne_eqb (bucket_of names (get_or names i [])) b e)
      ∙ sym (next_at b (i + 1))

  -- the row of name i, put before the rows of its bucket
  put : (i bucket next : ℕ) (heads nexts : List ℕ) → i < length names → bucket ≡ bucket_of names (get_or names i []) → bucket < length names + 1 → next ≡ get_or heads bucket 0
      → Chained names (i + 1) heads nexts → Chained names i (slice_set heads bucket (i + 1)) (slice_set nexts i next)
  put i bucket next heads nexts lt is below takes old = record {
    buckets = length-set heads bucket (i + 1) ∙ old.buckets;
    rows = length-set nexts i next ∙ old.rows;
    first = λ b within.
        elim (cases_eq bucket b) as (λ _. slice_index_or (slice_set heads bucket (i + 1)) b 0 ≡ next_in_bucket names b (i + 1)) [
          | inl same ↦
              get_or-set_at heads bucket b (i + 1) 0 (sym same) (omega (arith, old.buckets, below))
              ∙ sym (next_here b i lt (sym is ∙ same))
          | inr differ ↦
              get_or-set_other heads bucket b (i + 1) 0 (λ e. differ (sym e)) ∙ old.first b within
              ∙ sym (next_later b i lt (λ e. differ (is ∙ e)))
        ];
    next = λ k from within.
        elim (cases_eq i k) as (λ _. slice_index_or (slice_set nexts i next) k 0 ≡ next_in_bucket names (bucket_of names (slice_index_or names k [])) (k + 1 + 1)) [
          | inl same ↦
              get_or-set_at nexts i k next 0 (sym same) (omega (arith, old.rows, lt))
              ∙ takes ∙ old.first bucket below
              ∙ ap (λ (b : ℕ). next_in_bucket names b (i + 1 + 1)) is
              ∙ ap (λ (n : ℕ). next_in_bucket names (bucket_of names (get_or names n [])) (n + 1 + 1)) same
          | inr differ ↦
              get_or-set_other nexts i k next 0 (λ e. differ (sym e)) ∙ old.next k (omega (arith, from, differ)) within
        ];
  }

  -- none of them
  none_at : (b i : ℕ) → length names ≤ i → next_in_bucket names b (i + 1) ≡ 0
  none_at b i le = next_at b i ∙ ap (λ (xs : List (List ℕ)). row_from (in_bucket b) (i + 1) xs) (drop_all i names le)

  none : (i : ℕ) → i ≡ length names → Chained names i (replicate (length names + 1) 0) (replicate (length names) 0)
  none i end = record {
    buckets = length-replicate (length names + 1) 0;
    rows = length-replicate (length names) 0;
    first = λ b within. get_or-replicate (length names + 1) b 0 0 within ∙ sym (none_at b i (omega (arith, end)));
    next = λ k from within. absurd (omega (arith, end, from, within));
  }

  -- ---- all of them

  abbrev chain_at : ℕ × List ℕ → ℕ
  chain_at row = next_in_bucket names (bucket_of names row.1) (row.0 + 1)

  all_heads : (heads nexts : List ℕ) → Chained names 0 heads nexts → heads ≡ map (bucket_word names) (range_with_len 0 (length names + 1 - 0))
  all_heads heads nexts are =
      let n = length names + 1 - 0 in
      ext_get_or 0 heads (map (bucket_word names) (range_with_len 0 n)) (omega (arith, are.buckets, length-map-range_with_len (bucket_word names) 0 n))
      (λ b h.
      let lt : b < length names + 1 = omega (arith, h, are.buckets) in
      are.first b lt ∙ sym (get_or-map-range_with_len (bucket_word names) 0 n b b 0 (omega (arith, lt)) (zero-add b)))

  all_nexts : (heads nexts : List ℕ) → Chained names 0 heads nexts → nexts ≡ map chain_at (enumerate_from 1 names)
  all_nexts heads nexts are =
      let rows = enumerate_from 1 names in
      ext_get_or 0 nexts (map chain_at rows) (omega (arith, are.rows, length-map rows chain_at, length-enumerate_from 1 names))
      (λ k h.
      let lt : k < length names = omega (arith, h, are.rows) in
      let along : k < length rows = omega (arith, lt, length-enumerate_from 1 names) in
      let e : k + 1 ≡ 1 + k = omega arith in
      are.next k (omega arith) lt
      ∙ ap (λ (r : ℕ). next_in_bucket names (bucket_of names (get_or names k [])) (r + 1)) e
      ∙ sym (get_or-map chain_at rows k (1, []) 0 along ∙ ap chain_at (get_or-enumerate_from 1 names k (1, []) lt)))

  words_linked : (count : ℕ) (heads nexts : List ℕ) → count ≡ length names + 1 → Chained names 0 heads nexts → count ∷ count ∷ heads ++ 0 ∷ nexts ≡ hash_words names
  unfolding hash_words
  words_linked count heads nexts is are =
      ap (λ (n : ℕ). n ∷ n ∷ heads ++ 0 ∷ nexts) is
      ∙ ap (λ (xs : List ℕ). (length names + 1) ∷ (length names + 1) ∷ xs ++ 0 ∷ nexts) (all_heads heads nexts are)
      ∙ ap (λ (ys : List ℕ). (length names + 1) ∷ (length names + 1) ∷ map (bucket_word names) (range_with_len 0 (length names + 1 - 0)) ++ 0 ∷ ys) (all_nexts heads nexts are)

-- ---- by the borrowed names

length-names : (names : List (Bor (List ℕ))) → length (names_of names) ≡ length names
length-names names = length-map names (λ name. name.now)

pub none_linked : (names : List (Bor (List ℕ))) (i : ℕ) (heads nexts : List ℕ) → i ≡ length names → heads ≡ replicate (length names + 1) 0 → nexts ≡ replicate (length names) 0 → Chained (names_of names) i heads nexts
none_linked names i heads nexts end hs ns =
    let long = sym (length-names names) in
    let h : heads ≡ replicate (length (names_of names) + 1) 0 = hs ∙ ap (λ (n : ℕ). replicate (n + 1) 0) long in
    let t : nexts ≡ replicate (length (names_of names)) 0 = ns ∙ ap (λ (n : ℕ). replicate n 0) long in
    let P : List ℕ → List ℕ → Type 0 = Chained (names_of names) i in
    subst₂ P (sym h) (sym t) (none (names_of names) i (end ∙ long))

pub linked : (names : List (Bor (List ℕ))) (i hash bucket next : ℕ) (name : Bor (List ℕ)) (heads nexts : List ℕ) → i < length names → hash ≡ hash_of (get_or names i name).now → bucket ≡ hash % (length names + 1) → bucket < length names + 1 → next ≡ get_or heads bucket 0
    → Chained (names_of names) (i + 1) heads nexts → Chained (names_of names) i (slice_set heads bucket (i + 1)) (slice_set nexts i next)
linked names i hash bucket next name heads nexts lt hashed is below takes old =
    let long = length-names names in
    let named : get_or (names_of names) i [] ≡ (get_or names i name).now = get_or-map (λ (n : Bor (List ℕ)). n.now) names i name [] lt in
    let bucketed : bucket ≡ bucket_of (names_of names) (get_or (names_of names) i []) =
    is ∙ ap (λ (h : ℕ). h % (length names + 1)) (hashed ∙ ap hash_of (sym named))
    ∙ ap (λ (n : ℕ). hash_of (get_or (names_of names) i []) % (n + 1)) (sym long) in
    put (names_of names) i bucket next heads nexts (omega (arith, lt, long)) bucketed (omega (arith, below, long)) takes old

pub all_linked : (names : List (Bor (List ℕ))) (count : ℕ) (heads nexts : List ℕ) → count ≡ length names + 1 → Chained (names_of names) 0 heads nexts → count ∷ count ∷ heads ++ 0 ∷ nexts ≡ hash_words (names_of names)
all_linked names count heads nexts is are =
    words_linked (names_of names) count heads nexts (is ∙ ap (λ (n : ℕ). n + 1) (sym (length-names names))) are
