use Rattle.std.proofs.Common.{ap, ◌∙◌}
use Rattle.link_needs.specs.Needs.{Lists}
use Rattle.link_plan.proofs.Plans.{grown, grown_whole}
use Rattle.link_plan.proofs.planned.lists_of.Goals as goal

pub loop-item-init : goal.loop-item-init
loop-item-init c =
    ap (λ (s : Lists). grown s c.args.taken.now) c.new-lists.ensures ∙ grown_whole c.args.taken.now
