use Rattle.std.proofs.Common.{ℕ, ◌+◌, List, ◌∷◌, drop, ap, sym, ◌∙◌}
use Rattle.std.proofs.lemmas.List.{at_drop_more}
use Rattle.link_core.specs.Aligned.{end_from}
use Rattle.link_tables.specs.declared.section.Section.{Section}
use Rattle.link_tables.specs.Capped.{capped}
use Rattle.link_tables.proofs.Ends.{end_turn}
use Rattle.link_tables.proofs.places.ends_at.Goals as goal

pub loop-section-preserved : goal.loop-section-preserved
loop-section-preserved c =
    let section = c.section-item.result in
    let sections = c.args.sections.now in
    let i = c.loop-section.section-index in
    let F : List Section → ℕ = λ xs. capped (end_from (λ s. s.align) (λ s. s.size) c.loop-section.end xs) in
    record {
      ends =
          end_turn (λ s. s.align) (λ s. s.size) c.loop-section.end c.aligned.result c.saturating_add-end.result section
          (drop (i + 1) sections) c.aligned.ensures c.saturating_add-end.ensures
          ∙ ap (λ (s : Section). F (s ∷ drop (i + 1) sections)) c.section-item.is
          ∙ sym (at_drop_more F sections i section c.loop-section-test.true)
          ∙ c.loop-section.invariant.ends;
      bounded = c.saturating_add-end.type_inv;
    }
