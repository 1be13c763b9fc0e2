use Rattle.std.proofs.Common.{◌≡◌, ◌++◌, drop}
use Rattle.link_core.specs.Plan.{is_import, positions}
use Rattle.link_plan.specs.Lists.{positions_from}
use Rattle.link_plan.proofs.names.imports_of.Given as goal

abbrev pub invariant-loop-i : goal.invariant-loop-i
invariant-loop-i l =
    l.list.items ++ positions_from (λ row. is_import row.bound) l.i (drop l.i l.names)
    ≡ positions (λ row. is_import row.bound) l.names
