use Rattle.std.proofs.Common.{[], sym, ◌∙◌}
use Rattle.link_core.specs.OutputNames.{falls_under}
use Rattle.link_outputs.proofs.First.{first_here, first_later, first_end}
use Rattle.link_outputs.proofs.name.first_over.Goals as goal

pub returns-then-falls_under : goal.returns-then-falls_under
returns-then-falls_under c =
    first_here (falls_under c.args.name.now) c.args.prefixes.now c.loop-prefix.prefix-index (record { ref_ptr = (0, 0); now = [] }) _ c.loop-prefix-test.true (sym c.falls_under.ensures ∙ c.if-falls_under.true) c.loop-prefix.invariant

pub loop-prefix-preserved : goal.loop-prefix-preserved
loop-prefix-preserved c =
    first_later (falls_under c.args.name.now) c.args.prefixes.now c.loop-prefix.prefix-index (record { ref_ptr = (0, 0); now = [] }) _ c.loop-prefix-test.true (sym c.falls_under.ensures ∙ c.if-falls_under.false) c.loop-prefix.invariant

pub returns : goal.returns
returns c = first_end (falls_under c.args.name.now) c.args.prefixes.now c.loop-prefix.prefix-index _ c.loop-prefix-test.false c.loop-prefix.invariant
