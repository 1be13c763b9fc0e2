use Rattle.std.proofs.Common.{ℕ, ◌+◌, List, drop, get_or, ap, sym, ◌∙◌}
use Rattle.std.proofs.lemmas.List.{at_drop_more}
use Rattle.link_core.specs.Aligned.{end_from}
use Rattle.link_tables.specs.declared.output.Item.{Item}
use Rattle.link_tables.specs.declared.output.Thing.TheVariants.{Piece}
use Rattle.link_tables.specs.Capped.{capped}
use Rattle.link_tables.proofs.Ends.{end_turn}
use Rattle.link_places.proofs.segments.items_end.Goals as goal

pub loop-item-preserved : goal.loop-item-preserved
loop-item-preserved c =
    let none : Item = record { thing = Piece 0 0; align = 0; size = 0 } in
    let items = c.args.items.now in
    let i = c.loop-item.item-index in
    let item = get_or items i none in
    let F : List Item → ℕ = λ xs. capped (end_from (λ x. x.align) (λ x. x.size) c.loop-item.end xs) in
    record {
      ends =
          end_turn (λ x. x.align) (λ x. x.size) c.loop-item.end c.aligned.result c.saturating_add-end.result item
          (drop (i + 1) items) c.aligned.ensures
          (c.saturating_add-end.ensures ∙ ap (λ (size : ℕ). capped (c.aligned.result + size)) c.from.ensures)
          ∙ sym (at_drop_more F items i none c.loop-item-test.true)
          ∙ c.loop-item.invariant.ends;
      bounded = c.saturating_add-end.type_inv;
    }
