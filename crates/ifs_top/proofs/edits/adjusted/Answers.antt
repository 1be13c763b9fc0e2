use Rattle.std.proofs.Common.{ap, sym, inr}
use Rattle.std.specs.Prelude.{codes}
use Rattle.ifs_edit.specs.Printed.{printed_adjust_cause}
use Rattle.ifs_top.specs.Refused.{or_refused}
use Rattle.ifs_top.proofs.Unchanged.{unchanged}
use Rattle.ifs_top.proofs.edits.adjusted.Goals as goal

pub returns-then-changes_nothing : goal.returns-then-changes_nothing
returns-then-changes_nothing c =
    inr (ap (or_refused (codes "adjust") printed_adjust_cause) (sym (unchanged c.args.interface c.args.options.now (sym c.if-changes_nothing.ensures))))
