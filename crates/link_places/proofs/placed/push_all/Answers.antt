use Rattle.std.proofs.Common.{List, ◌++◌, ap, sym, ◌∙◌, append-nil}
use Rattle.link_core.specs.declared.layout.OutSection.{OutSection}
use Rattle.link_places.specs.Placed.{placed_from}
use Rattle.link_places.proofs.Turns.{placed_end, placed_turn}
use Rattle.link_places.proofs.placed.push_all.Goals as goal

pub loop-section-preserved : goal.loop-section-preserved
loop-section-preserved c =
    placed_turn c.args.sections.now c.loop-section.section-index c.loop-section.end c.aligned-address.result c.saturating_add-end.result
    c.section-item.result c.loop-section.placed.items c.push_placed.new.placed.items
    (c.args.placed.now.items ++ placed_from c.args.at c.args.sections.now)
    c.loop-section-test.true c.section-item.is c.aligned-address.ensures c.saturating_add-end.ensures c.in_ok-push_placed.ensures
    c.loop-section.invariant

pub returns : goal.returns
returns c =
    let so_far = c.loop-section.invariant in
    let last = placed_end c.args.sections.now c.loop-section.section-index c.loop-section.end c.loop-section-test.false in
    sym (ap (λ (xs : List OutSection). c.loop-section.placed.items ++ xs) last ∙ append-nil c.loop-section.placed.items) ∙ so_far
