-- What a read of a source gives and leaves.
use Rattle.std.specs.Prelude.{◌≡◌, ℕ, ◌≤◌, ◌<◌, List, length, take, Option, Result, Ok, Err}
use Rattle.std.specs.Io.KnownBytes.{prepend_known, IsAtEnd}
use Rattle.ifs_outside.specs.declared.cause.Failed.{Failed}
use Rattle.ifs_outside.specs.Count.{Rose}

-- what was left is what was read and then what is left now; nothing is read of a source that isn't at
-- its end only where there is no room; a read that fails takes nothing
abbrev pub Takes : Result ℕ Failed → List ℕ → Option (List ℕ) → Option (List ℕ) → Type 0
Takes (Ok n) room old new = (n ≤ length room) × (old ≡ prepend_known (take n room) new) × (n ≡ 0 → 0 < length room → IsAtEnd new)
Takes (Err _) room old new = new ≡ old

-- the count of faults rose where the read failed, and only there
abbrev pub SourceCounts : Result ℕ Failed → ℕ → ℕ → Type 0
SourceCounts (Ok _) old new = new ≡ old
SourceCounts (Err _) old new = Rose old new
