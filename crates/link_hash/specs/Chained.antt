-- What the rows of the buckets are while they are linked, from the last name to the first.
use Rattle.std.specs.Prelude.{List, [], length, map, slice_index_or, ℕ, ◌+◌, ◌<◌, ◌≡◌, ◌≤◌}
use Rattle.link_core.specs.HashTable.{bucket_of, next_in_bucket}
use denote.Ref.{Bor}

-- the names themselves
abbrev pub names_of : List (Bor (List ℕ)) → List (List ℕ)
names_of names = map (λ name. name.now) names

-- heads and nexts tell all of the rows from that of name i on; the row of name i is i + 1
pub record Chained (names : List (List ℕ)) (i : ℕ) (heads nexts : List ℕ) : Type 0 where
  pub buckets : length heads ≡ length names + 1
  pub rows : length nexts ≡ length names
  pub first : (b : ℕ) → b < length names + 1 → slice_index_or heads b 0 ≡ next_in_bucket names b (i + 1)
  pub next :
      (k : ℕ) → i ≤ k → k < length names
      → slice_index_or nexts k 0
      ≡ next_in_bucket names (bucket_of names (slice_index_or names k [])) (k + 1 + 1)
