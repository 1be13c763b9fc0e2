-- .hash (gABI, "Hash Table"): as many buckets as .dynsym has rows. Each bucket has the first of its rows,
-- and the chain word of a row the next one; 0 ends them. Words have 4 bytes.
use Rattle.std.specs.List.{enumerate_from}
use Rattle.std.specs.Option.{option_map_or}
use Rattle.std.specs.Prelude.{List, bit_xor, drop, flat_map, fold, length, map, position, sum, ℕ, ◌%◌, ◌*◌, ◌++◌, ◌+◌, ◌-◌, ◌/◌, ◌==◌, ◌^◌, ◌∷◌}
use Rattle.ifs_bytes.specs.Field.{number_bytes}
use Rattle.ifs_bytes.specs.Places.{places}
use Rattle.ifs_bytes.specs.declared.form.Order.TheVariants.{Little}
use Rattle.link_core.specs.Planned.{Planned}
use Rattle.link_core.specs.Strings.{symbol_names}

-- the hash of a name, a step a byte: four bits to the left, in 32 bits, and the highest four go into the
-- lowest eight
abbrev pub hash_step : ℕ → ℕ → ℕ
hash_step hash byte =
    let sum = (hash * 16 + byte) % 2 ^ 32 in
    bit_xor (sum % 2 ^ 28) (sum / 2 ^ 28 * 16)

unfoldable pub hash_of : List ℕ → ℕ
hash_of name = fold hash_step 0 name

-- the bucket of a name
abbrev pub bucket_of : List (List ℕ) → List ℕ → ℕ
bucket_of names name = hash_of name % (length names + 1)

-- the first row from some row on whose name is of a bucket. The names are those of the rows behind the first.
unfoldable pub next_in_bucket : List (List ℕ) → ℕ → ℕ → ℕ
next_in_bucket names bucket from =
    option_map_or (λ i. from + i) (position (λ n. bucket_of names n == bucket) (drop (from - 1) names)) 0

abbrev pub bucket_word : List (List ℕ) → ℕ → ℕ
bucket_word names bucket = next_in_bucket names bucket 1

-- row 0 is in no bucket
abbrev pub chain_word : List (List ℕ) → ℕ × List ℕ → ℕ
chain_word names row = next_in_bucket names (bucket_of names row.1) (row.0 + 1)

unfoldable pub hash_words : List (List ℕ) → List ℕ
hash_words names =
    let count = length names + 1 in
    count ∷ count ∷ map (bucket_word names) (places 0 count)
    ++ 0 ∷ map (chain_word names) (enumerate_from 1 names)

unfoldable pub hash_bytes : Planned → List ℕ
hash_bytes j = flat_map (λ word. number_bytes 4 word Little) (hash_words (symbol_names j))
