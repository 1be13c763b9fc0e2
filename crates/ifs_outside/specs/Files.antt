-- What a call on files gives and leaves. A path is a text of bytes.
use Rattle.std.specs.Prelude.{◌≡◌, ℕ, ◌↔◌, List, length, Bool, IsTrue, nat_le, if◌then◌else◌, Option, None, Some, Result, Ok, Err, Vec, ⊤}
use Rattle.std.specs.declared.alloc.Global.{Global}
use Rattle.std.specs.Option.{option_map}
use Rattle.std.specs.Str.{bytes_eq}
use Rattle.ifs_outside.specs.declared.cause.Failed.{Failed}
use Rattle.ifs_outside.specs.declared.cause.ReadCause.{ReadCause}
use Rattle.ifs_outside.specs.declared.cause.ReadCause.TheVariants.{Missing, TooLarge, Failed as ReadFailed, Memory as ReadMemory}
use Rattle.ifs_outside.specs.declared.cause.WriteCause.{WriteCause}
use Rattle.ifs_outside.specs.declared.cause.WriteCause.TheVariants.{Failed as WriteFailed, Memory as WriteMemory}
use Rattle.ifs_outside.specs.declared.counts.FileCounts.{FileCounts}
use Rattle.ifs_outside.specs.Count.{raised, Rose}

-- the bytes that each path holds, None where it isn't held
abbrev pub FileMap : Type 0
FileMap = List ℕ → Option (List ℕ)

-- the map with one path changed, and all others as they were
abbrev pub put : List ℕ → Option (List ℕ) → FileMap → FileMap
put path held files = λ at. if bytes_eq path at then held else files at

-- what reading gives, by what the path holds
abbrev pub reading : ℕ → Option (List ℕ) → Result (List ℕ) ReadCause
reading limit None = Err Missing
reading limit (Some bytes) = if nat_le (length bytes) limit then Ok bytes else Err TooLarge

-- the answer of a read is what reading gives, unless it failed or memory ran out
abbrev pub ReadTells : Result (Vec ℕ Global) ReadCause → Result (List ℕ) ReadCause → Type 0
ReadTells (Ok bytes) meant = meant ≡ Ok bytes.items
ReadTells (Err Missing) meant = meant ≡ Err Missing
ReadTells (Err TooLarge) meant = meant ≡ Err TooLarge
ReadTells (Err ReadFailed) meant = ⊤
ReadTells (Err ReadMemory) meant = ⊤

-- read faults rose where the read failed, misses where it missed, and no other count anywhere
abbrev pub ReadCounts : {T : Type 0} → Result T ReadCause → FileCounts → FileCounts → Type 0
ReadCounts (Ok _) old new = new ≡ old
ReadCounts (Err Missing) old new = Rose old.misses new.misses × (new ≡ record old { misses = new.misses })
ReadCounts (Err TooLarge) old new = Rose old.misses new.misses × (new ≡ record old { misses = new.misses })
ReadCounts (Err ReadFailed) old new = Rose old.read_faults new.read_faults × (new ≡ record old { read_faults = new.read_faults })
ReadCounts (Err ReadMemory) old new = new ≡ old

-- the answer is true exactly where the path holds just these bytes
abbrev pub SameTells : Result Bool Failed → Option (List ℕ) → List ℕ → Type 0
SameTells (Ok same) held bytes = IsTrue same ↔ (held ≡ Some bytes)
SameTells (Err _) held bytes = ⊤

-- write faults rose where the comparison failed, and no other count anywhere
abbrev pub SameCounts : Result Bool Failed → FileCounts → FileCounts → Type 0
SameCounts (Ok _) old new = new ≡ old
SameCounts (Err _) old new = Rose old.write_faults new.write_faults × (new ≡ record old { write_faults = new.write_faults })

-- the path holds the bytes; after a write that failed it holds any bytes or none, and one that found no
-- memory changed nothing
abbrev pub Stores : {T : Type 0} → Result T WriteCause → List ℕ → List ℕ → Option FileMap → Option FileMap → Type 0
Stores (Ok _) path bytes old new = new ≡ option_map (put path (Some bytes)) old
Stores (Err WriteFailed) path bytes old new = (held : Option (List ℕ)) × (new ≡ option_map (put path held) old)
Stores (Err WriteMemory) path bytes old new = new ≡ old

-- one more write
abbrev pub with_write : FileCounts → FileCounts
with_write counts = record counts { writes = raised counts.writes }

-- writes rose by one, write faults rose where the write failed, and no other count anywhere
abbrev pub WriteCounts : {T : Type 0} → Result T WriteCause → FileCounts → FileCounts → Type 0
WriteCounts (Ok _) old new = new ≡ with_write old
WriteCounts (Err WriteFailed) old new = Rose old.write_faults new.write_faults × (new ≡ record (with_write old) { write_faults = new.write_faults })
WriteCounts (Err WriteMemory) old new = new ≡ with_write old

-- nothing happened yet
abbrev pub no_counts : FileCounts
no_counts = record { read_faults = 0; write_faults = 0; misses = 0; writes = 0 }
