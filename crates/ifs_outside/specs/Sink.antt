-- What a write to a sink leaves.
use Rattle.std.specs.Prelude.{◌≡◌, ℕ, ◌≤◌, ◌<◌, List, length, take, Option, Result, Ok, Err}
use Rattle.std.specs.Io.KnownBytes.{append_known}
use Rattle.ifs_outside.specs.declared.cause.WriteCause.{WriteCause}
use Rattle.ifs_outside.specs.declared.cause.WriteCause.TheVariants.{Failed, Memory}
use Rattle.ifs_outside.specs.Count.{Rose}

-- a prefix of the bytes was appended, maybe an empty one
abbrev pub PutsPrefix : List ℕ → Option (List ℕ) → Option (List ℕ) → Type 0
PutsPrefix bytes old new = (n : ℕ) × (n ≤ length bytes) × (new ≡ append_known old (take n bytes))

-- the first n bytes of the piece were appended; a write that fails appended a prefix, and one that found
-- no memory nothing
abbrev pub Puts : Result ℕ WriteCause → List ℕ → Option (List ℕ) → Option (List ℕ) → Type 0
Puts (Ok n) piece old new = (n ≤ length piece) × (0 < length piece → 0 < n) × (new ≡ append_known old (take n piece))
Puts (Err Failed) piece old new = PutsPrefix piece old new
Puts (Err Memory) piece old new = new ≡ old

-- all the bytes were appended, or a prefix of them
abbrev pub PutsAll : {T : Type 0} → Result T WriteCause → List ℕ → Option (List ℕ) → Option (List ℕ) → Type 0
PutsAll (Ok _) bytes old new = new ≡ append_known old bytes
PutsAll (Err _) bytes old new = PutsPrefix bytes old new

-- the count of faults rose where the write failed, and only there
abbrev pub SinkCounts : {T : Type 0} → Result T WriteCause → ℕ → ℕ → Type 0
SinkCounts (Ok _) old new = new ≡ old
SinkCounts (Err Failed) old new = Rose old new
SinkCounts (Err Memory) old new = new ≡ old
