use Rattle.std.proofs.Common.{ℕ, ◌+◌, List, ◌∷◌, ◌++◌, drop, sym, ap, ◌∙◌}
use Rattle.std.proofs.lemmas.List.{drop_more}
use Rattle.link_tables.specs.declared.output.FilledOutput.{FilledOutput}
use Rattle.link_tables.specs.declared.output.Item.{Item}
use Rattle.link_positions.specs.Next.{at, behind}
use Rattle.link_positions.specs.Standing.{address_at, commons_from, commons_in, pieces_from, pieces_in}
use Rattle.link_positions.proofs.Turns.{all_commons_end, all_commons_law, all_pieces_end, all_pieces_law, done, turn}
use Rattle.link_positions.proofs.standing.push_outputs.Goals as goal

pub loop-output-preserved : goal.loop-output-preserved
loop-output-preserved c =
    let outputs = c.args.outputs.now in
    let sections = c.args.sections.now in
    let i = c.loop-output.output-index in
    let next = c.loop-output.next in
    let output = c.output-item.result in
    let pieces = c.loop-output.pieces.items in
    let commons = c.loop-output.commons.items in
    let out = c.at-out.result in
    let address = c.address_at-address.result in
    let here =
    drop_more outputs i output c.loop-output-test.true
    ∙ ap (λ (x : FilledOutput). x ∷ drop (i + 1) outputs) (sym c.output-item.is)
    in
    record {
      pieces =
          turn (pieces_in sections) (λ s x. pieces_from (at s x.class) (address_at sections (at s x.class)) 0 x.items)
          (λ s x. behind s x.class) (all_pieces_law sections) outputs i output next c.behind-next.result pieces
          c.push_items.new.pieces.items (c.args.pieces.now.items ++ pieces_in sections c.args.first outputs) here
          (c.in_ok-push_items.ensures.pieces
          ∙ ap (λ (items : List Item). pieces ++ pieces_from out address 0 items) c.as_slice.ensures
          ∙ ap (λ (a : ℕ). pieces ++ pieces_from out a 0 output.items) c.address_at-address.ensures
          ∙ ap (λ (n : ℕ). pieces ++ pieces_from n (address_at sections n) 0 output.items) c.at-out.ensures)
          c.behind-next.ensures c.loop-output.invariant.pieces;
      commons =
          turn (commons_in sections) (λ s x. commons_from (address_at sections (at s x.class)) 0 x.items)
          (λ s x. behind s x.class) (all_commons_law sections) outputs i output next c.behind-next.result commons
          c.push_items.new.commons.items (c.args.commons.now.items ++ commons_in sections c.args.first outputs) here
          (c.in_ok-push_items.ensures.commons
          ∙ ap (λ (items : List Item). commons ++ commons_from address 0 items) c.as_slice.ensures
          ∙ ap (λ (a : ℕ). commons ++ commons_from a 0 output.items) c.address_at-address.ensures
          ∙ ap (λ (n : ℕ). commons ++ commons_from (address_at sections n) 0 output.items) c.at-out.ensures)
          c.behind-next.ensures c.loop-output.invariant.commons;
    }

pub returns-clause-pieces : goal.returns-clause-pieces
returns-clause-pieces c =
    done c.loop-output.pieces.items _ _
    (all_pieces_end c.args.sections.now c.loop-output.next c.loop-output.output-index c.args.outputs.now c.loop-output-test.false)
    c.loop-output.invariant.pieces

pub returns-clause-commons : goal.returns-clause-commons
returns-clause-commons c =
    done c.loop-output.commons.items _ _
    (all_commons_end c.args.sections.now c.loop-output.next c.loop-output.output-index c.args.outputs.now c.loop-output-test.false)
    c.loop-output.invariant.commons
