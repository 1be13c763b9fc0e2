use Rattle.std.proofs.Common.{arith, ap, ◌∙◌}
use Rattle.link_index.specs.Index.{word_place}
use Rattle.link_placed.proofs.Bounds.{words_fit}
use Rattle.link_placed.specs.Made.{link_of}
use Rattle.link_placed.proofs.link.Link.words_before.Goals as goal

pub overflow_cast-result : goal.overflow_cast-result
overflow_cast-result g c =
    let low = words_fit (link_of g.M.Machine.rules c.args.self.now) c.args.self.now.layout c.args.slot c.word_place.result c.is_made.ensures
    (c.word_place.ensures ∙ ap (λ p. word_place p c.args.slot) c.index.ensures) in
    omega (arith, low)

pub returns-clause-low : goal.returns-clause-low
returns-clause-low g c = words_fit (link_of g.M.Machine.rules c.args.self.now) c.args.self.now.layout c.args.slot c.word_place.result c.is_made.ensures
    (c.word_place.ensures ∙ ap (λ p. word_place p c.args.slot) c.index.ensures)
