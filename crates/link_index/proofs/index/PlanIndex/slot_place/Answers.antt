use Rattle.std.proofs.Common.{sym, ap, ◌∙◌, length}
use Rattle.std.specs.Option.{option_copied}
use Rattle.indexmap.specs.IndexMap.{get}
use Rattle.link_core.specs.Plan.{same_slot}
use Rattle.link_index.specs.Index.{slot_place}
use Rattle.link_index.proofs.Found.{found, missing, same_slots}
use Rattle.link_index.proofs.index.PlanIndex.slot_place.Goals as goal

pub returns-in-Some : goal.returns-in-Some
unfolding slot_place
returns-in-Some c =
    found (same_slot c.args.slot) c.self.inside.plan.now.got _
    (sym (c.self.invariant.slot_places c.args.slot) ∙ sym (ap (λ same. get same c.self.inside.slots c.args.slot) same_slots) ∙ sym c.get.ensures.value ∙ ap option_copied c.in-Some.is)
    ∙ ap (λ p. slot_place p c.args.slot) c.self.view_is

pub returns-in-None : goal.returns-in-None
unfolding slot_place
returns-in-None c =
    ap (λ items. length items) c.as_slice.ensures
    ∙ missing (same_slot c.args.slot) c.self.inside.plan.now.got
    (sym (c.self.invariant.slot_places c.args.slot) ∙ sym (ap (λ same. get same c.self.inside.slots c.args.slot) same_slots) ∙ sym c.get.ensures.value ∙ ap option_copied c.in-None.is)
    ∙ ap (λ p. slot_place p c.args.slot) c.self.view_is
