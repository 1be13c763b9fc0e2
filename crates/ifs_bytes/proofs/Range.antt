-- A loop over places counts up: what it finds, keeps or adds from a place on, in terms of that place and the next.
use Rattle.std.proofs.Common.{◌≡◌, ℕ, suc, ◌+◌, ◌-◌, ◌<◌, ◌≤◌, Bool, true, false, cond, List, [], ◌∷◌, ◌++◌, Option, Some, None, refl, sym, ap, ◌∙◌, arith, append_assoc}
use Rattle.std.proofs.lemmas.List.Sums.{sum_by-cons}
use Rattle.std.specs.List.{find, filter_map, cons_option, range_with_len, sum_by, count_by}
use Rattle.std.specs.Option.{option_to_list}
use Rattle.ifs_bytes.specs.Places.{places}

pub places_more : (i n : ℕ) → i < n → places i n ≡ i ∷ places (i + 1) n
places_more i n h = let e : n - i ≡ suc (n - (i + 1)) = omega arith in ap (range_with_len i) e

pub places_end : (i n : ℕ) → n ≤ i → places i n ≡ []
places_end i n h = let e : n - i ≡ 0 = omega arith in ap (range_with_len i) e

pub find_here : (p : ℕ → Bool) (i n : ℕ) → i < n → p i ≡ true → find p (places i n) ≡ Some i
find_here p i n h passes = ap (find p) (places_more i n h) ∙ ap (λ b. cond b (Some i) (find p (places (i + 1) n))) passes

pub find_later : (p : ℕ → Bool) (i n : ℕ) → i < n → p i ≡ false → find p (places i n) ≡ find p (places (i + 1) n)
find_later p i n h fails = ap (find p) (places_more i n h) ∙ ap (λ b. cond b (Some i) (find p (places (i + 1) n))) fails

pub find_end : (p : ℕ → Bool) (i n : ℕ) → n ≤ i → find p (places i n) ≡ None
find_end p i n h = ap (find p) (places_end i n h)

pub sum_more : (f : ℕ → ℕ) (i n : ℕ) → i < n → sum_by f (places i n) ≡ f i + sum_by f (places (i + 1) n)
sum_more f i n h = ap (sum_by f) (places_more i n h) ∙ sum_by-cons f i (places (i + 1) n)

pub sum_end : (f : ℕ → ℕ) (i n : ℕ) → n ≤ i → sum_by f (places i n) ≡ 0
sum_end f i n h = ap (sum_by f) (places_end i n h)

option_front : {X : Type 0} (o : Option X) (xs : List X) → cons_option o xs ≡ option_to_list o ++ xs
option_front None xs = refl
option_front (Some x) xs = refl

pub filter_map_more : {X : Type 0} (f : ℕ → Option X) (i n : ℕ) → i < n → filter_map f (places i n) ≡ option_to_list (f i) ++ filter_map f (places (i + 1) n)
filter_map_more f i n h = ap (filter_map f) (places_more i n h) ∙ option_front (f i) (filter_map f (places (i + 1) n))

pub filter_map_end : {X : Type 0} (f : ℕ → Option X) (i n : ℕ) → n ≤ i → filter_map f (places i n) ≡ []
filter_map_end f i n h = ap (filter_map f) (places_end i n h)

pub count_more : (p : ℕ → Bool) (i n : ℕ) → i < n → count_by p (places i n) ≡ cond (p i) 1 0 + count_by p (places (i + 1) n)
count_more p i n h = sum_more (λ x. cond (p x) 1 0) i n h

pub count_end : (p : ℕ → Bool) (i n : ℕ) → n ≤ i → count_by p (places i n) ≡ 0
count_end p i n h = sum_end (λ x. cond (p x) 1 0) i n h

-- one turn of a loop that keeps at the end of a vector what f gives at place i
pub filter_map_turn : {X : Type 0} (f : ℕ → Option X) (i n : ℕ) (old new all : List X) (o : Option X) → i < n → o ≡ f i → new ≡ old ++ option_to_list o
    → old ++ filter_map f (places i n) ≡ all → new ++ filter_map f (places (i + 1) n) ≡ all
filter_map_turn f i n old new all o h gives pushed so_far =
    let rest = filter_map f (places (i + 1) n) in
    ap (λ xs. xs ++ rest) (pushed ∙ ap (λ y. old ++ option_to_list y) gives) ∙ append_assoc old (option_to_list (f i)) rest
    ∙ (ap (λ xs. old ++ xs) (sym (filter_map_more f i n h)) ∙ so_far)
