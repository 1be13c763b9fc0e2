-- The slots of a plan.
use Rattle.std.proofs.Common.{◌≡◌, List, filter_map, subst}
use Rattle.std.specs.Prelude.{Result, Ok, Err}
use Rattle.std.specs.List.{IsDistinct}
use Rattle.ifs_bytes.specs.Outcome.{◌>>=◌}
use Rattle.elf_object.specs.Record.{ObjectRecord}
use Rattle.link_machine.specs.Rules.{MachineRules}
use Rattle.link_core.specs.declared.options.LinkOptions.{LinkOptions}
use Rattle.link_core.specs.declared.plan.Plan.{Plan}
use Rattle.link_core.specs.declared.refusal.LinkRefusal.{LinkRefusal}
use Rattle.link_core.specs.declared.resolution.Resolution.{Resolution}
use Rattle.link_core.specs.Lists.{each_ok}
use Rattle.link_core.specs.Plan.{Needed, needed_by, planned, plan_of, same_slot, slot_for, slots_of}
use Rattle.link_core.specs.References.{uses_of}
use Rattle.link_core.proofs.Once.{once_distinct}

planned_ok : (all : Result (List Needed) LinkRefusal) (r : Resolution) (p : Plan) → all >>= (λ a. Ok (planned r a)) ≡ Ok p → (a : List Needed) × (planned r a ≡ p)
planned_ok (Ok a) r p e = (a, cc)
planned_ok (Err refusal) r p e = absurd (cc)

slots_distinct : (a : List Needed) → IsDistinct same_slot (slots_of a)
unfolding slots_of
slots_distinct a = once_distinct same_slot (filter_map (λ n. slot_for n.symbol n.need) a)

pub plans_distinct : (rules : MachineRules) (options : LinkOptions) (objects : List ObjectRecord) (r : Resolution) (p : Plan) → plan_of rules options objects r ≡ Ok p → IsDistinct same_slot p.got
unfolding plan_of
plans_distinct rules options objects r p e =
    let found = planned_ok (each_ok (needed_by rules options objects r) (uses_of r.dropped objects)) r p e in
    subst (λ (q : Plan). IsDistinct same_slot q.got) found.1 (slots_distinct found.0)
