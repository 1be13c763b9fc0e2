use Rattle.std.proofs.Common.{sym, ap, ◌∙◌, ◌==◌, length}
use Rattle.std.specs.Option.{option_copied}
use Rattle.indexmap.specs.IndexMap.{get}
use Rattle.link_index.specs.Index.{entry_place}
use Rattle.link_index.proofs.Found.{found, missing, same_numbers}
use Rattle.link_index.proofs.index.PlanIndex.entry_place.Goals as goal

pub returns-in-Some : goal.returns-in-Some
unfolding entry_place
returns-in-Some c =
    found (λ m. m == c.args.name) c.self.inside.plan.now.plt _
    (sym (c.self.invariant.entry_places c.args.name) ∙ sym (ap (λ same. get same c.self.inside.entries c.args.name) same_numbers) ∙ sym c.get.ensures.value ∙ ap option_copied c.in-Some.is)
    ∙ ap (λ p. entry_place p c.args.name) c.self.view_is

pub returns-in-None : goal.returns-in-None
unfolding entry_place
returns-in-None c =
    ap (λ items. length items) c.as_slice.ensures
    ∙ missing (λ m. m == c.args.name) c.self.inside.plan.now.plt
    (sym (c.self.invariant.entry_places c.args.name) ∙ sym (ap (λ same. get same c.self.inside.entries c.args.name) same_numbers) ∙ sym c.get.ensures.value ∙ ap option_copied c.in-None.is)
    ∙ ap (λ p. entry_place p c.args.name) c.self.view_is
