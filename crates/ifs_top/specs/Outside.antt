-- What is known of the outside before or after a run: what the files and the sinks hold, where they tell it,
-- and their counts; and how outputs change it.
use Rattle.std.specs.Prelude.{◌≡◌, ℕ, Bool, true, false, ◌&&◌, ◌⊎◌, List, [], ◌∷◌, Option, Some, None, option_map, IfSome, if◌then◌else◌}
use Rattle.std.specs.Str.{bytes_eq}
use Rattle.std.specs.Io.KnownBytes.{append_known}
use Rattle.ifs_outside.specs.Count.{Rose}
use Rattle.ifs_outside.specs.Files.{FileMap, put, with_write}
use Rattle.ifs_outside.specs.Sink.{PutsPrefix}
use Rattle.ifs_outside.specs.declared.counts.FileCounts.{FileCounts}
use Rattle.ifs_outside.specs.declared.cause.WriteCause.{WriteCause}
use Rattle.ifs_outside.specs.declared.cause.WriteCause.TheVariants.{Failed, Memory}
use Rattle.ifs_top.specs.declared.reply.Output.{Output}
use Rattle.ifs_top.specs.Reply.{is_printed}

-- where outputs go: standard output, and the files with their counts
pub record Places : Type 0 where
  pub out : Option (List ℕ)
  pub out_faults : ℕ
  pub files : Option FileMap
  pub counts : FileCounts

-- with standard input, what is left of it, and standard error
pub record Outside : Type 0 where
  pub left : Option (List ℕ)
  pub input_faults : ℕ
  pub places : Places
  pub err : Option (List ℕ)
  pub err_faults : ℕ

abbrev pub places : Option (List ℕ) → ℕ → Option FileMap → FileCounts → Places
places out out_faults files counts = record { out = out; out_faults = out_faults; files = files; counts = counts }

-- the path holds just these bytes already
abbrev pub holds : List ℕ → Option (List ℕ) → Bool
holds bytes None = false
holds bytes (Some held) = bytes_eq held bytes

-- an output that is written only where it changes something stays as it is held
abbrev pub stays : Output → Option FileMap → Bool
stays output None = false
stays output (Some files) = output.if_changed && holds output.bytes (files output.path)

-- the places once an output is written
abbrev pub after : Output → Places → Places
after output p =
    if is_printed output then record p { out = append_known p.out output.bytes }
    else (if stays output p.files then p
    else record p { files = option_map (put output.path (Some output.bytes)) p.files; counts = with_write p.counts })

-- the places once these outputs are written, in order
abbrev pub written : List Output → Places → Places
written [] p = p
written (output ∷ outputs) p = written outputs (after output p)

-- this holds where the files tell what they hold
abbrev pub IfTold : Places → Type 0 → Type 0
IfTold p P = IfSome p.files (λ _. P)

-- nothing is changed but counts
abbrev pub Keeps : Places → Places → Type 0
Keeps old new = (new.out ≡ old.out) × (new.files ≡ old.files)

-- where the output is printed a part of it was, else its path holds any bytes or none; all else stays
abbrev pub SpoilsBy : Bool → Output → Places → Places → Type 0
SpoilsBy true output old new = PutsPrefix output.bytes old.out new.out × (new.files ≡ old.files)
SpoilsBy false output old new =
    (held : Option (List ℕ)) × (new.out ≡ old.out) × (new.files ≡ option_map (put output.path held) old.files)

abbrev pub Spoils : Output → Places → Places → Type 0
Spoils output old new = SpoilsBy (is_printed output) output old new

-- some of the first outputs were written whole, in order, and at most one more was spoilt
abbrev pub StopsWithin : List Output → Places → Places → Type 0
StopsWithin [] old new = Keeps old new
StopsWithin (output ∷ outputs) old new = Keeps old new ⊎ (Spoils output old new ⊎ StopsWithin outputs (after output old) new)

-- a count of faults of writing rose
abbrev pub PlaceRose : Places → Places → Type 0
PlaceRose old new = Rose old.out_faults new.out_faults ⊎ Rose old.counts.write_faults new.counts.write_faults

-- no count of faults changed, nor that of misses
pub record SameFaults (old new : Places) : Type 0 where
  pub out : new.out_faults ≡ old.out_faults
  pub reads : new.counts.read_faults ≡ old.counts.read_faults
  pub writes : new.counts.write_faults ≡ old.counts.write_faults
  pub misses : new.counts.misses ≡ old.counts.misses

-- a fault of writing was counted, and no other
pub record Faulted (old new : Places) : Type 0 where
  pub rose : PlaceRose old new
  pub reads : new.counts.read_faults ≡ old.counts.read_faults
  pub misses : new.counts.misses ≡ old.counts.misses

-- all outputs were written, and no count of faults changed
abbrev pub Writes : List Output → Places → Places → Type 0
Writes [] old new = new ≡ old
Writes (output ∷ outputs) old new = IfTold old (new ≡ written (output ∷ outputs) old) × SameFaults old new

-- what an output that wasn't written whole leaves of the counts
abbrev pub Counted : WriteCause → Places → Places → Type 0
Counted Failed old new = Faulted old new
Counted Memory old new = SameFaults old new
