use Rattle.std.proofs.Common.{ℕ, ◌+◌, ◌++◌, get_or, ap, ◌∙◌}
use Rattle.std.proofs.lemmas.List.{drop_more}
use Rattle.ifs_bytes.specs.Carried.{carried}
use Rattle.link_core.specs.Aligned.{aligned}
use Rattle.link_tables.specs.declared.output.Item.{Item}
use Rattle.link_tables.specs.declared.output.Thing.TheVariants.{Piece}
use Rattle.link_tables.specs.Capped.{capped}
use Rattle.link_positions.specs.Standing.{common_of, commons_from, piece_of, pieces_from}
use Rattle.link_positions.proofs.Turns.{commons_end, commons_law, done, pieces_end, pieces_law, turn}
use Rattle.link_positions.proofs.standing.push_items.Goals as goal

pub loop-item-preserved : goal.loop-item-preserved
loop-item-preserved c =
    let none : Item = record { thing = Piece 0 0; align = 0; size = 0 } in
    let out = c.args.out in
    let address = c.args.address in
    let items = c.args.items.now in
    let i = c.loop-item.item-index in
    let end = c.loop-item.end in
    let item = get_or items i none in
    let here = drop_more items i none c.loop-item-test.true in
    let placed = c.address_of.ensures ∙ ap (λ (p : ℕ). carried (address + p)) c.aligned-place.ensures in
    let stepped =
    c.saturating_add-end.ensures ∙ ap (λ (n : ℕ). capped (c.aligned-place.result + n)) c.from.ensures
    ∙ ap (λ (p : ℕ). capped (p + item.size)) c.aligned-place.ensures
    in
    record {
      pieces =
          turn (pieces_from out address) (λ s x. piece_of out (carried (address + capped (aligned x.align s))) x.thing)
          (λ s x. capped (capped (aligned x.align s) + x.size)) (pieces_law out address)
          items i item end c.saturating_add-end.result c.loop-item.pieces.items c.push_thing.new.pieces.items
          (c.args.pieces.now.items ++ pieces_from out address 0 items) here
          (c.in_ok-push_thing.ensures.pieces ∙ ap (λ (a : ℕ). c.loop-item.pieces.items ++ piece_of out a item.thing) placed)
          stepped c.loop-item.invariant.pieces;
      commons =
          turn (commons_from address) (λ s x. common_of (carried (address + capped (aligned x.align s))) x.thing)
          (λ s x. capped (capped (aligned x.align s) + x.size)) (commons_law address)
          items i item end c.saturating_add-end.result c.loop-item.commons.items c.push_thing.new.commons.items
          (c.args.commons.now.items ++ commons_from address 0 items) here
          (c.in_ok-push_thing.ensures.commons ∙ ap (λ (a : ℕ). c.loop-item.commons.items ++ common_of a item.thing) placed)
          stepped c.loop-item.invariant.commons;
    }

pub returns-clause-pieces : goal.returns-clause-pieces
returns-clause-pieces c =
    done c.loop-item.pieces.items _ _
    (pieces_end c.args.out c.args.address c.loop-item.end c.loop-item.item-index c.args.items.now c.loop-item-test.false)
    c.loop-item.invariant.pieces

pub returns-clause-commons : goal.returns-clause-commons
returns-clause-commons c =
    done c.loop-item.commons.items _ _
    (commons_end c.args.address c.loop-item.end c.loop-item.item-index c.args.items.now c.loop-item-test.false)
    c.loop-item.invariant.commons
