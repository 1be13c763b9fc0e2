-- What one reference needs whose symbol is known, and what the lists of a plan are after it.
use Rattle.std.specs.Prelude.{ℕ, ◌==◌, Bool, if◌then◌else◌, List, [], ◌∷◌, ◌++◌, Option, Some, None, Result, Ok, Err, ok_or}
use Rattle.std.specs.List.{list_any}
use Rattle.std.specs.Option.{option_to_list}
use Rattle.ifs_bytes.specs.Outcome.{◌>>=◌}
use Rattle.link_machine.specs.Rules.{MachineRules}
use Rattle.link_core.specs.declared.options.LinkOptions.{LinkOptions}
use Rattle.link_core.specs.declared.plan.DynReloc.{DynReloc}
use Rattle.link_core.specs.declared.plan.GotSlot.{GotSlot}
use Rattle.link_core.specs.declared.refusal.LinkRefusal.{LinkRefusal}
use Rattle.link_core.specs.declared.refusal.LinkRefusal.TheVariants as refusals
use Rattle.link_core.specs.declared.refusal.LinkStop.{LinkStop}
use Rattle.link_core.specs.declared.refusal.LinkStop.TheVariants as stops
use Rattle.link_core.specs.Plan.{Needed, need_at, supported, slot_for, entry_for, move_for, same_slot}
use Rattle.link_core.specs.References.{Use, Target, at_of}

-- what a reference needs whose symbol is this one
unfoldable pub needed_with : MachineRules → LinkOptions → Use → Option Target → Result Needed LinkRefusal
needed_with rules options u target = do
  class ← ok_or (supported rules u) (refusals.Unsupported (at_of u) u.reference.kind)
  need_at options u class target

-- what a call answers that is refused
abbrev pub stopped : {T : Type 0} → Result T LinkRefusal → Result T LinkStop
stopped (Ok x) = Ok x
stopped (Err refusal) = Err (stops.Refused refusal)

-- ---- the lists of a plan, so far

pub record Lists : Type 0 where
  pub got : List GotSlot
  pub plt : List ℕ
  pub moves : List DynReloc

-- an item more, unless it is there
abbrev pub put : {A : Type 0} → (A → A → Bool) → List A → Option A → List A
put same xs None = xs
put same xs (Some x) = if list_any (same x) xs then xs else xs ++ x ∷ []

abbrev pub no_lists : Lists
no_lists = record { got = []; plt = []; moves = [] }

-- the lists after what one more reference needs
unfoldable pub after : Lists → Needed → Lists
after s n = record {
  got = put same_slot s.got (slot_for n.symbol n.need);
  plt = put (λ i j. i == j) s.plt (entry_for n.symbol n.need);
  moves = s.moves ++ option_to_list (move_for n.at n.symbol n.need);
}
