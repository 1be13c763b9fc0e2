-- The references of a link, each with what it needs.
use Rattle.std.specs.Prelude.{List, Result, Ok, Err}
use Rattle.std.specs.declared.vec.Vec.{Vec}
use Rattle.ifs_bytes.specs.Outcome.{◌>>=◌}
use Rattle.elf_object.specs.Record.{ObjectRecord}
use Rattle.link_machine.specs.Rules.{MachineRules}
use Rattle.link_core.specs.declared.options.LinkOptions.{LinkOptions}
use Rattle.link_core.specs.declared.refusal.LinkRefusal.{LinkRefusal}
use Rattle.link_core.specs.declared.refusal.LinkStop.{LinkStop}
use Rattle.link_core.specs.declared.resolution.Resolution.{Resolution}
use Rattle.link_core.specs.Lists.{each_ok}
use Rattle.link_core.specs.Plan.{Needed, needed_by}
use Rattle.link_core.specs.References.{Use, uses_of}

-- a reference, and what it needs
pub record Taken : Type 0 where
  pub used : Use
  pub needed : Needed

-- a reference with what it needs, or its first cause
abbrev pub taken_by : MachineRules → LinkOptions → List ObjectRecord → Resolution → Use
    → Result Taken LinkRefusal
taken_by rules options objects r u =
    needed_by rules options objects r u >>= (λ n. Ok (record { used = u; needed = n }))

-- the references of kept sections, each with what it needs, or the first cause of the first that has any
unfoldable pub taken_of : MachineRules → LinkOptions → List ObjectRecord → Resolution
    → Result (List Taken) LinkRefusal
taken_of rules options objects r = each_ok (taken_by rules options objects r) (uses_of r.dropped objects)

-- a vector as the list of its items
abbrev pub seen : {T Z : Type 0} → Result (Vec T Z) LinkStop → Result (List T) LinkStop
seen (Ok v) = Ok v.items
seen (Err stop) = Err stop
