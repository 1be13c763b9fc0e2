-- Laws on the references of a link and what they need.
use Rattle.std.specs.Prelude.{◌≡◌, List, map, Ok}
use Rattle.ifs_bytes.specs.Outcome.{◌>>=◌}
use Rattle.elf_object.specs.Record.{ObjectRecord}
use Rattle.link_machine.specs.Rules.{MachineRules}
use Rattle.link_core.specs.declared.options.LinkOptions.{LinkOptions}
use Rattle.link_core.specs.declared.resolution.Resolution.{Resolution}
use Rattle.link_core.specs.Plan.{plan_of, planned}
use Rattle.link_core.specs.Planned.{Planned, uses_by, need_in}
use Rattle.link_uses.specs.Uses.{Taken, taken_of}

-- they are the references of kept sections, in their order
abbrev pub UsesAreTaken : Type 0
UsesAreTaken = (j : Planned) (ts : List Taken) → taken_of j.rules j.options j.objects j.names ≡ Ok ts
    → map (λ t. t.used) ts ≡ uses_by j

-- what is kept beside each is what it needs
abbrev pub NeedsAreTaken : Type 0
NeedsAreTaken = (j : Planned) (ts : List Taken) → taken_of j.rules j.options j.objects j.names ≡ Ok ts
    → map (λ t. t.needed) ts ≡ map (λ t. need_in j t.used) ts

-- the plan is that of what they need, and its refusal is theirs
abbrev pub PlanIsOfTaken : Type 0
PlanIsOfTaken = (rules : MachineRules) (options : LinkOptions) (objects : List ObjectRecord) (r : Resolution)
    → plan_of rules options objects r
    ≡ taken_of rules options objects r >>= (λ ts. Ok (planned r (map (λ t. t.needed) ts)))
