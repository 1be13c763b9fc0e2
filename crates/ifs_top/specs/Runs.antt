-- What a run does, sentence by sentence.
use Rattle.std.specs.Prelude.{◌≡◌, ◌≢◌, ℕ, ◌+◌, ◌<◌, ◌≤◌, ◌⊎◌, List, codes, Option, Result, Ok, Err, IfSome}
use Rattle.std.specs.Io.KnownBytes.{append_known}
use Rattle.ifs_outside.specs.Count.{raised, Rose}
use Rattle.ifs_outside.specs.Files.{FileMap, reading}
use Rattle.ifs_outside.specs.declared.counts.FileCounts.{FileCounts}
use Rattle.ifs_outside.specs.declared.cause.ReadCause.TheVariants.{Missing, TooLarge}
use Rattle.ifs_top.specs.declared.limits.TheConstants.{MOST_FILE_BYTES}
use Rattle.ifs_top.specs.declared.reply.Reply.{Reply}
use Rattle.ifs_words.specs.Printed.{printed_word_cause}
use Rattle.ifs_words.specs.declared.cause.WordCause.{WordCause}
use Rattle.ifs_words.specs.declared.command.Command.{Command}
use Rattle.ifs_top.specs.Inputs.{AreNamed, inputs_of}
use Rattle.ifs_top.specs.Outcome.{outcome}
use Rattle.ifs_top.specs.Outside.{Outside, Keeps, PlaceRose, StopsWithin, places, written}
use Rattle.ifs_top.specs.Reply.{fault_line, Names}

abbrev pub outside : Option (List ℕ) → ℕ → Option (List ℕ) → ℕ → Option FileMap → FileCounts → Option (List ℕ) → ℕ → Outside
outside left input_faults out out_faults files counts err err_faults = record {
  left = left;
  input_faults = input_faults;
  places = places out out_faults files counts;
  err = err;
  err_faults = err_faults;
}

-- reading failed or missed, and was counted
abbrev pub ReadRose : Outside → Outside → Type 0
ReadRose old new =
    Rose old.input_faults new.input_faults ⊎ (Rose old.places.counts.read_faults new.places.counts.read_faults ⊎ Rose old.places.counts.misses new.places.counts.misses)

-- writing failed, and was counted
abbrev pub WriteRose : Outside → Outside → Type 0
WriteRose old new = Rose old.err_faults new.err_faults ⊎ PlaceRose old.places new.places

-- how often reading failed or missed
abbrev pub read_total : Outside → ℕ
read_total o = o.input_faults + (o.places.counts.read_faults + o.places.counts.misses)

-- how often writing failed
abbrev pub write_total : Outside → ℕ
write_total o = o.err_faults + (o.places.out_faults + o.places.counts.write_faults)

-- no count of faults rose
pub record NoFault (old new : Outside) : Type 0 where
  pub input : new.input_faults < raised old.input_faults
  pub reads : new.places.counts.read_faults < raised old.places.counts.read_faults
  pub writes : new.places.counts.write_faults < raised old.places.counts.write_faults
  pub out : new.places.out_faults < raised old.places.out_faults
  pub err : new.err_faults < raised old.err_faults

-- just the reply was given: its outputs, its line, its status
pub record Gives (reply : Reply) (status : ℕ) (old new : Outside) : Type 0 where
  pub status_is : status ≡ reply.status
  pub out_is : new.places.out ≡ (written reply.outputs old.places).out
  pub files_are : new.places.files ≡ (written reply.outputs old.places).files
  pub writes_are : new.places.counts.writes ≡ (written reply.outputs old.places).counts.writes
  pub err_is : new.err ≡ append_known old.err reply.line

-- nothing was written but on standard error
pub record WritesNothing (old new : Outside) : Type 0 where
  pub keeps : Keeps old.places new.places
  pub writes_are : new.places.counts.writes ≡ old.places.counts.writes

-- the line says of the path that it isn't held, that it holds too much, or that reading it failed
abbrev pub SaysUnread : List ℕ → Outside → Outside → Type 0
SaysUnread path old new =
    ((new.err ≡ append_known old.err (fault_line path (codes "missing"))) × Rose old.places.counts.misses new.places.counts.misses
    × IfSome old.places.files (λ files. reading MOST_FILE_BYTES (files path) ≡ Err Missing))
    ⊎ (((new.err ≡ append_known old.err (fault_line path (codes "too large"))) × Rose old.places.counts.misses new.places.counts.misses
    × IfSome old.places.files (λ files. reading MOST_FILE_BYTES (files path) ≡ Err TooLarge))
    ⊎ ((new.err ≡ append_known old.err (fault_line path (codes "read failed"))) × Rose old.places.counts.read_faults new.places.counts.read_faults))

-- the words name the path of an input
abbrev pub IsInput : Result Command WordCause → List ℕ → Type 0
IsInput (Ok command) path = AreNamed (inputs_of command) path
IsInput (Err cause) path = ⊥

-- the line says of the path of an output that writing it failed
abbrev pub SaysUnwritten : Result Command WordCause → Outside → Outside → Type 0
SaysUnwritten asked old new =
    (path : List ℕ) × IfSome old.places.files (λ files. Names (outcome asked files).outputs path) × (new.err ≡ append_known old.err (fault_line path (codes "write failed"))) × PlaceRose old.places new.places

-- a run whose words ask for this ended with this status
pub record Runs (asked : Result Command WordCause) (status : ℕ) (old new : Outside) : Type 0 where
  -- standard input is left unread
  pub left : new.left ≡ old.left
  pub input_faults : new.input_faults ≡ old.input_faults
  -- the statuses 0, 1 and 2 give just what the words ask for, by what the files hold, whatever counts rose
  pub settled : status < 3 → IfSome old.places.files (λ files. Gives (outcome asked files) status old new)
  -- and so does every status but 5 where no fault was counted
  pub complete : NoFault old new → status ≢ 5 → IfSome old.places.files (λ files. Gives (outcome asked files) status old new)
  -- 3 comes only where reading failed or missed, 4 only where writing failed
  pub three : status ≡ 3 → ReadRose old new
  pub four : status ≡ 4 → WriteRose old new
  -- where such a count grew, the status is at least so much
  pub at_least_three : read_total old < read_total new → 3 ≤ status
  pub at_least_four : write_total old < write_total new → 4 ≤ status
  pub at_most_five : status ≤ 5
  -- whatever went wrong, the outputs that were written whole are the first of the list, and at most one more
  -- was spoilt
  pub stops : IfSome old.places.files (λ files. StopsWithin (outcome asked files).outputs old.places new.places)
  -- where reading failed or missed, nothing was written
  pub unread : status ≡ 3 → WritesNothing old new
  pub grew_unread : read_total old < read_total new → WritesNothing old new
  -- the line of a fault, with its cause
  pub read_line : status ≡ 3 → (path : List ℕ) × IsInput asked path × SaysUnread path old new
  pub write_line : status ≡ 4 → Rose old.err_faults new.err_faults ⊎ SaysUnwritten asked old new
  -- words that aren't understood: nothing is read or written but their line
  pub refused : (cause : WordCause) → asked ≡ Err cause → new.places ≡ old.places
  pub refused_line : (cause : WordCause) → asked ≡ Err cause → NoFault old new → status ≢ 5
      → (status ≡ 2) × (new.err ≡ append_known old.err (fault_line (codes "words") (printed_word_cause cause)))
