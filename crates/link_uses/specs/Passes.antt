-- A pass over the references of a link, turn by turn, for the code alone.
use Rattle.std.specs.Prelude.{◌≡◌, ℕ, ◌==◌, Bool, false, ◌&&◌, if◌then◌else◌, List, [], ◌∷◌, ◌++◌, drop, slice_get, Option, Some, unwrap_or, Result, Ok, Err, option_map}
use Rattle.std.specs.List.{enumerate_from, list_any}
use Rattle.std.specs.Option.{option_map_or}
use Rattle.ifs_bytes.specs.Outcome.{◌>>=◌}
use Rattle.elf_object.specs.declared.reference.Reference.{Reference}
use Rattle.elf_object.specs.Record.{ObjectRecord}
use Rattle.link_machine.specs.Rules.{MachineRules}
use Rattle.link_core.specs.declared.options.LinkOptions.{LinkOptions}
use Rattle.link_core.specs.declared.refusal.LinkRefusal.{LinkRefusal}
use Rattle.link_core.specs.declared.refusal.LinkStop.{LinkStop}
use Rattle.link_core.specs.declared.resolution.Member.{Member}
use Rattle.link_core.specs.declared.resolution.Resolution.{Resolution}
use Rattle.link_core.specs.Kept.{is_among, is_kept}
use Rattle.link_core.specs.Plan.{Needed, needed_by}
use Rattle.link_core.specs.References.{Use, Target as TargetMeant, no_symbol}
use Rattle.link_targets.specs.declared.target.Target.{Target}
use Rattle.link_targets.specs.Targets.{target_at, target_seen}
use Rattle.link_needs.specs.Needs.{needed_with}
use Rattle.link_uses.specs.Uses.{Taken}

-- what the references of a link are taken from
pub record Given : Type 0 where
  pub options : LinkOptions
  pub names : Resolution
  pub objects : List ObjectRecord

-- ---- what is known of an object before its references

-- the sections that are kept, as flags
abbrev pub has_flag : List Bool → ℕ → Bool
has_flag flags section = unwrap_or (slice_get flags section) false

-- the dropped sections are those whose object and number stand among the pairs
abbrev pub is_pair : ℕ → ℕ → ℕ × ℕ → Bool
is_pair object section pair = object == pair.0 && section == pair.1

abbrev pub AreDropped : List Member → List (ℕ × ℕ) → Type 0
AreDropped dropped pairs =
    (object section : ℕ) → list_any (is_pair object section) pairs ≡ is_among dropped object section

abbrev pub AreKept : List Member → ℕ → ObjectRecord → List Bool → Type 0
AreKept dropped object o flags = (section : ℕ) → has_flag flags section ≡ is_kept dropped object o section

-- the symbol in a row, by a table of all rows
abbrev pub looked_up : Resolution → ℕ → List (Option Target) → ℕ → Option TargetMeant
looked_up r object table row =
    option_map_or (option_map (target_seen r)) (slice_get table row) (Some (no_symbol object))

abbrev pub AreTargets : Given → ℕ → ObjectRecord → List (Option Target) → Type 0
AreTargets g object o table =
    (row : ℕ) → looked_up g.names object table row ≡ target_at g.names g.objects object o row

-- ---- one more reference

-- the references after one more
abbrev pub after : List Taken → Use → Needed → List Taken
after s u n = s ++ record { used = u; needed = n } ∷ []

abbrev pub use_of : ℕ → ObjectRecord → Reference → Use
use_of object o reference = record { object = object; record_of = o; reference = reference }

-- the references after one more, whose section is kept or not, and whose symbol is this one
unfoldable pub turn_with : MachineRules → LinkOptions → Bool → Option TargetMeant → List Taken → Use
    → Result (List Taken) LinkRefusal
turn_with rules options kept target s u =
    if kept then needed_with rules options u target >>= (λ n. Ok (after s u n)) else Ok s

-- the references after one more of an object
unfoldable pub reference_turn : MachineRules → Given → ℕ → ObjectRecord → List Taken → Reference
    → Result (List Taken) LinkRefusal
reference_turn rules g object o s reference =
    if is_kept g.names.dropped object o reference.section
    then needed_by rules g.options g.objects g.names (use_of object o reference)
    >>= (λ n. Ok (after s (use_of object o reference) n))
    else Ok s

-- ---- passes

-- what a call leaves, or why it came to no end
abbrev pub left : {S : Type 0} → S → Result (Unit {0}) LinkStop → Result S LinkStop
left s (Ok done) = Ok s
left s (Err stop) = Err stop

-- a pass of turns, up to the first that is refused
abbrev pub goes : {S X : Type 0} → (S → X → Result S LinkRefusal) → S → List X → Result S LinkRefusal
goes turn s [] = Ok s
goes turn s (x ∷ xs) = turn s x >>= (λ next. goes turn next xs)

-- the references after those of one more object
unfoldable pub object_turn : MachineRules → Given → List Taken → ℕ × ObjectRecord
    → Result (List Taken) LinkRefusal
object_turn rules g s o = goes (reference_turn rules g o.0 o.1) s o.1.references

-- the references after those of the objects from one on
abbrev pub goes_from : MachineRules → Given → List Taken → ℕ → Result (List Taken) LinkRefusal
goes_from rules g s i = goes (object_turn rules g) s (enumerate_from i (drop i g.objects))
