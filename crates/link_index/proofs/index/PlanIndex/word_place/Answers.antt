use Rattle.std.proofs.Common.{arith, sym, ap, subst, ◌∙◌, ◌<◌, length, get_or, not}
use Rattle.std.proofs.lemmas.List.Sums.{prefix_len-le-length}
use Rattle.link_core.specs.Plan.{same_slot}
use Rattle.link_index.specs.Index.{slot_place, starts_from, word_place}
use Rattle.link_index.proofs.Found.{first_start, place_within}
use Rattle.link_index.proofs.index.PlanIndex.word_place.Goals as goal

pub index-requires : goal.index-requires
unfolding slot_place
index-requires c =
    let at = c.slot_place.ensures ∙ sym (ap (λ p. slot_place p c.args.slot) c.self.view_is) in
    let within : c.slot_place.result < length c.self.inside.starts.items =
    subst (λ starts. c.slot_place.result < length starts) (sym c.self.invariant.starts_stand)
    (subst (λ place. place < length (starts_from 0 c.self.inside.plan.now.got)) (sym at) (place_within (same_slot c.args.slot) c.self.inside.plan.now.got)) in
    omega (arith, within, c.self.inside.starts.ok)

pub returns : goal.returns
unfolding slot_place word_place
returns c =
    let at = c.slot_place.ensures ∙ sym (ap (λ p. slot_place p c.args.slot) c.self.view_is) in
    c.index.ensures
    ∙ ap (λ starts. get_or starts c.slot_place.result c.index.result.now) c.self.invariant.starts_stand
    ∙ ap (λ place. get_or (starts_from 0 c.self.inside.plan.now.got) place c.index.result.now) at
    ∙ first_start c.self.inside.plan.now.got _ _ (prefix_len-le-length (λ x. not (same_slot c.args.slot x)) c.self.inside.plan.now.got)
    ∙ ap (λ p. word_place p c.args.slot) c.self.view_is
