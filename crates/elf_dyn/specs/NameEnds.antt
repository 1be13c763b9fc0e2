-- Where the names of a string table start and end.
use Rattle.std.specs.Prelude.{◌≡◌, ℕ, ◌*◌, ◌==◌, nat_le, List, drop, is_none, slice_index}
use Rattle.std.specs.List.{position_or_len}
use Rattle.ifs_bytes.specs.Name.{name_in}

-- a name starts at each place before end, and at no other
abbrev pub StartBefore : List ℕ → ℕ → Type 0
StartBefore table end = (at : ℕ) → is_none (name_in table at) ≡ nat_le end at

-- how far the next NUL is, or the end of the table where there is none
unfoldable pub distance : List ℕ → ℕ → ℕ
distance table at = position_or_len (λ b. b == 0) (drop at table)

-- far has this of every 64th place
abbrev pub AreFar : List ℕ → List ℕ → Type 0
AreFar table far = (k : ℕ) → slice_index far k ≡ distance table (64 * k)
