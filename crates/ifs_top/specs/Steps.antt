-- What the steps of a run promise.
use Rattle.std.specs.Prelude.{◌≡◌, ℕ, ◌<◌, ◌⊎◌, ⊤, max, codes, List, [], ◌∷◌, ◌++◌, Option, Result, Ok, Err, IfSome, IfOk, IfErr}
use Rattle.std.specs.Io.KnownBytes.{append_known}
use Rattle.ifs_outside.specs.Count.{Rose}
use Rattle.ifs_outside.specs.Files.{FileMap, reading}
use Rattle.ifs_outside.specs.declared.cause.ReadCause.TheVariants.{Missing, TooLarge}
use Rattle.ifs_top.specs.declared.limits.TheConstants.{MOST_FILE_BYTES}
use Rattle.ifs_outside.specs.declared.counts.FileCounts.{FileCounts}
use Rattle.ifs_outside.specs.declared.cause.WriteCause.{WriteCause}
use Rattle.ifs_top.specs.declared.reply.Output.{Output}
use Rattle.ifs_top.specs.declared.reply.Reply.{Reply}
use Rattle.ifs_top.specs.declared.refusal.Stop.{Stop}
use Rattle.ifs_top.specs.declared.refusal.Stop.TheVariants as stops
use Rattle.ifs_top.specs.declared.deliver.Unwritten.{Unwritten}
use Rattle.ifs_top.specs.declared.refusal.Refusal.{Refusal}
use Rattle.ifs_top.specs.declared.refusal.Refusal.TheVariants as refusals
use Rattle.ifs_words.specs.declared.cause.WordCause.{WordCause}
use Rattle.ifs_words.specs.declared.command.Command.{Command}
use Rattle.ifs_words.specs.declared.command.Command.TheVariants.{Stub}
use Rattle.ifs_words.specs.declared.command.StubWords.{StubWords}
use Rattle.ifs_top.specs.Inputs.{AreNamed}
use Rattle.ifs_top.specs.Outside.{Places, IfTold, Spoils, Keeps, StopsWithin, SameFaults, Faulted, Writes, Counted, after}
use Rattle.ifs_top.specs.Outcome.{stub_reply, refused_words}
use Rattle.ifs_top.specs.Reply.{fault, fault_line, Names, HasOutputs}

-- a reply of status 3 comes with a miss and any other with no change, a fault with its count; where memory
-- runs out only counts of reading changed
abbrev pub DecideCounts : Result Reply Stop → FileCounts → FileCounts → Type 0
DecideCounts (Ok reply) old new =
    ((reply.status < 3) × (new ≡ old)) ⊎ ((reply.status ≡ 3) × (reply.outputs ≡ []) × Rose old.misses new.misses × (new ≡ record old { misses = new.misses }))
DecideCounts (Err (stops.Unread line)) old new = Rose old.read_faults new.read_faults × (new ≡ record old { read_faults = new.read_faults })
DecideCounts (Err stops.Memory) old new = new ≡ record old { read_faults = new.read_faults; misses = new.misses }

-- the output was written, or not whole
abbrev pub WritesOne : {T : Type 0} → Result T WriteCause → Output → Places → Places → Type 0
WritesOne (Ok _) output old new = IfTold old (new ≡ after output old) × SameFaults old new
WritesOne (Err cause) output old new = (Keeps old new ⊎ Spoils output old new) × Counted cause old new

-- the outputs were written, or some of them; the path is that of the first that wasn't written whole
abbrev pub WritesAll : {T : Type 0} → Result T Unwritten → List Output → Places → Places → Type 0
WritesAll (Ok _) outputs old new = Writes outputs old new
WritesAll (Err unwritten) outputs old new =
    Names outputs unwritten.path.now × IfTold old (StopsWithin outputs old new) × Counted unwritten.cause old new

-- a line was written on standard error, whose faults were counted, and the status is the greatest of what
-- occurred
abbrev pub Says : List ℕ → ℕ → ℕ → Option (List ℕ) → Option (List ℕ) → ℕ → ℕ → Type 0
Says line status result old new faults later =
    ((result ≡ status) × (new ≡ append_known old line) × (later ≡ faults))
    ⊎ (((result ≡ max status 4) × Rose faults later) ⊎ ((result ≡ 5) × (later ≡ faults)))

-- the line of want of memory
abbrev pub memory_line : List ℕ
memory_line = codes "error: memory" ++ 10 ∷ []

-- a reply is written: all of it; or an output failed, and a line says so; or memory ran out
abbrev pub Delivers : Reply → ℕ → Places → Places → Option (List ℕ) → Option (List ℕ) → ℕ → ℕ → Type 0
Delivers reply result old new err later faults later_faults =
    (Writes reply.outputs old new × Says reply.line reply.status result err later faults later_faults)
    ⊎ (((path : List ℕ) × Names reply.outputs path × IfTold old (StopsWithin reply.outputs old new) × Faulted old new × Says (fault_line path (codes "write failed")) 4 result err later faults later_faults)
    ⊎ (HasOutputs reply.outputs × IfTold old (StopsWithin reply.outputs old new) × (Faulted old new ⊎ SameFaults old new) × Says memory_line 5 result err later faults later_faults))

-- a fault of reading says of its path that it isn't held, or that it holds too much
abbrev pub SaysMiss : List ℕ → Reply → Option FileMap → Type 0
SaysMiss path reply files =
    ((reply ≡ fault path (codes "missing") 3) × IfSome files (λ held. reading MOST_FILE_BYTES (held path) ≡ Err Missing))
    ⊎ ((reply ≡ fault path (codes "too large") 3) × IfSome files (λ held. reading MOST_FILE_BYTES (held path) ≡ Err TooLarge))

-- a reply of status 3 is that of a miss of one of these paths
abbrev pub IsMiss : List (List ℕ) → Reply → Option FileMap → Type 0
IsMiss paths reply files = reply.status ≡ 3 → (path : List ℕ) × AreNamed paths path × SaysMiss path reply files

-- the line of a read that failed
abbrev pub IsUnread : List (List ℕ) → Stop → Type 0
IsUnread paths (stops.Unread line) = (path : List ℕ) × AreNamed paths path × (line ≡ fault_line path (codes "read failed"))
IsUnread paths stops.Memory = ⊤

-- inputs were read, and no count changed; or one was missed; or reading failed, and a line says so; or memory ran out
abbrev pub ReadsInputs : {X : Type 0} → List (List ℕ) → Result (Result X Refusal) Stop → Option FileMap → FileCounts → FileCounts → Type 0
ReadsInputs paths (Ok (Ok _)) files old new = new ≡ old
ReadsInputs paths (Ok (Err (refusals.Fault reply))) files old new =
    ((path : List ℕ) × AreNamed paths path × SaysMiss path reply files) × Rose old.misses new.misses × (new ≡ record old { misses = new.misses })
ReadsInputs paths (Ok (Err refusals.Memory)) files old new = ⊥
ReadsInputs paths (Err (stops.Unread line)) files old new =
    IsUnread paths (stops.Unread line) × Rose old.read_faults new.read_faults × (new ≡ record old { read_faults = new.read_faults })
ReadsInputs paths (Err stops.Memory) files old new = new ≡ record old { read_faults = new.read_faults; misses = new.misses }

-- a refusal for a cause is a reply too
abbrev pub Settles : Result Reply Refusal → Result Reply Stop → Type 0
Settles (Ok reply) result = result ≡ Ok reply
Settles (Err (refusals.Fault reply)) result = result ≡ Ok reply
Settles (Err refusals.Memory) result = result ≡ Err stops.Memory

-- why a run stopped is said
abbrev pub StopSays : Stop → ℕ → Option (List ℕ) → Option (List ℕ) → ℕ → ℕ → Type 0
StopSays (stops.Unread line) result err later faults later_faults = Says line 3 result err later faults later_faults
StopSays stops.Memory result err later faults later_faults = Says memory_line 5 result err later faults later_faults

-- the answer to `stub`
pub record DecidesStub (words : StubWords) (result : Result Reply Stop) (files : Option FileMap) (old new : FileCounts) : Type 0 where
  pub reply : IfOk result (λ reply. IfSome files (λ held. reply ≡ stub_reply words held))
  pub miss : IfOk result (λ reply. IsMiss words.inputs reply files)
  pub line : IfErr result (IsUnread words.inputs)
  pub counts : DecideCounts result old new

-- the answer to a command, or to words that are none
abbrev pub Decides : Result Command WordCause → Result Reply Stop → Option FileMap → FileCounts → FileCounts → Type 0
Decides (Ok (Stub words)) result files old new = DecidesStub words result files old new
Decides (Err cause) result files old new = ((result ≡ Ok (refused_words cause)) ⊎ (result ≡ Err stops.Memory)) × (new ≡ old)
