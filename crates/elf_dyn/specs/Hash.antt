-- How many rows the dynamic symbol table has, by a hash table of it: the SysV one (gABI, "Hash Table") or
-- the GNU one. Hash words have 32 bits; the words of the GNU table's Bloom filter have the file's width.
use Rattle.std.specs.Prelude.{ℕ, zero, suc, ◌+◌, ◌-◌, ◌*◌, ◌%◌, Bool, true, ◌==◌, nat_lt, if◌then◌else◌, List, [], ◌∷◌, length, max, Option, Some, None, Result, Ok, Err}
use Rattle.std.specs.List.{find, list_all, fold}
use Rattle.ifs_bytes.specs.Carried.{carried}
use Rattle.ifs_bytes.specs.Field.{lies, number_at, word_size}
use Rattle.ifs_bytes.specs.Outcome.{◌>>=◌}
use Rattle.ifs_bytes.specs.declared.form.Order.{Order}
use Rattle.ifs_bytes.specs.declared.form.Width.{Width}
use Rattle.ifs_bytes.specs.Places.{places}
use Rattle.elf_file.specs.declared.cause.ElfCause.{ElfCause}
use Rattle.elf_file.specs.declared.cause.ElfCause.TheVariants.{Truncated}

-- the hash word at an offset
unfoldable pub word_in : List ℕ → Order → ℕ → Result ℕ ElfCause
word_in file order at = if lies file at 4 then Ok (number_at file at 4 order) else Err (Truncated (carried at))

-- of the SysV table only the number of chain words counts, its second word
abbrev pub rows_by_hash : List ℕ → Order → ℕ → Result ℕ ElfCause
rows_by_hash file order at = word_in file order (carried (at + 4))

-- the n hash words from an offset on
unfoldable pub words_in : List ℕ → Order → ℕ → ℕ → Result (List ℕ) ElfCause
words_in file order at zero = Ok []
words_in file order at (suc n) = do
  word ← word_in file order at
  others ← words_in file order (at + 4) n
  Ok (word ∷ others)

-- a chain ends at an odd word; no word stands outside the file
abbrev pub ends_chain : List ℕ → Order → ℕ → Bool
ends_chain file order at = if lies file at 4 then number_at file at 4 order % 2 == 1 else true

-- the words up to the one at place i of those from an offset on, if that one stands in the file
abbrev pub through : List ℕ → Order → ℕ → Option ℕ → Result ℕ ElfCause
through file order from None = Ok 0
through file order from (Some i) = do
  word ← word_in file order (from + 4 * i)
  Ok (i + 1)

-- how many words the chain from an offset on has, the one that ends it included. There are fewer words
-- behind the offset than the file has bytes.
unfoldable pub chain_length : List ℕ → Order → ℕ → Result ℕ ElfCause
chain_length file order from =
    through file order from (find (λ i. ends_chain file order (from + 4 * i)) (places 0 (length file + 1)))

-- the number of rows, where first is the first hashed row, chains is where its chain word stands, and
-- greatest is the greatest bucket: the row that begins the last chain, unless all buckets are below first
unfoldable pub rows_by_chains : List ℕ → Order → ℕ → ℕ → ℕ × Bool → Result ℕ ElfCause
rows_by_chains file order first chains (greatest, all_below) =
    if all_below
    then Ok first
    else (chain_length file order (chains + 4 * (greatest - first)) >>= λ more. Ok (greatest + more))

-- the greatest of these buckets, and whether all are below the first hashed row
abbrev pub summary : ℕ → List ℕ → ℕ × Bool
summary first buckets = (fold max 0 buckets, list_all (λ b. nat_lt b first) buckets)

-- the same of the buckets from an offset on
abbrev pub buckets_in : List ℕ → Order → ℕ → ℕ → ℕ → Result (ℕ × Bool) ElfCause
buckets_in file order at count first = words_in file order at count >>= λ buckets. Ok (summary first buckets)

-- the number of rows by the GNU table at an offset: the number of buckets, the first hashed row, the number
-- of Bloom words, a shift; then the Bloom words, the buckets, the chain words
unfoldable pub rows_by_gnu_hash : List ℕ → Order → Width → ℕ → Result ℕ ElfCause
rows_by_gnu_hash file order width at = do
  count ← word_in file order at
  first ← word_in file order (at + 4)
  blooms ← word_in file order (at + 8)
  buckets ← buckets_in file order (at + 16 + blooms * word_size width) count first
  rows_by_chains file order first (at + 16 + blooms * word_size width + 4 * count) buckets
