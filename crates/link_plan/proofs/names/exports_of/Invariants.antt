use Rattle.std.proofs.Common.{◌≡◌, ◌++◌, drop}
use Rattle.link_core.specs.Plan.{positions}
use Rattle.link_plan.specs.Lists.{positions_from}
use Rattle.link_plan.proofs.names.exports_of.Given as goal

abbrev pub invariant-loop-i : goal.invariant-loop-i
invariant-loop-i l =
    l.list.items ++ positions_from (λ row. row.exported) l.i (drop l.i l.names)
    ≡ positions (λ row. row.exported) l.names
