use Rattle.std.proofs.Common.{◌∙◌, ap, sym}
use Rattle.link_core.specs.Plan.{same_slot}
use Rattle.link_needs.specs.Needs.{put}
use Rattle.link_needs.proofs.Slots.{put_same}
use Rattle.link_needs.proofs.lists.put_slot.Goals as goal

pub returns-in_ok-insert_full : goal.returns-in_ok-insert_full
returns-in_ok-insert_full c =
    c.in_ok-insert_full.ensures.keys ∙ put_same c.in-Some.slot c.args.got.now.keys
    ∙ ap (λ slot. put same_slot c.args.got.now.keys slot) (sym c.in-Some.is)
