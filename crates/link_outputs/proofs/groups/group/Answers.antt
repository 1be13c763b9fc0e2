use Rattle.std.proofs.Common.{ap, sym, ◌∙◌, map}
use Rattle.link_outputs.specs.Grouped.{key_seen, key_of}
use Rattle.link_outputs.proofs.Grouping.{group_step, grouped_none}
use Rattle.link_outputs.proofs.groups.group.Goals as goal

pub loop-piece-init : goal.loop-piece-init
loop-piece-init c = (
  c.new-groups.ensures.items ∙ sym grouped_none,
  ap (map key_seen) c.new-keys.ensures.empty ∙ sym (ap (map (λ g. key_of g.output)) c.new-groups.ensures.items),
)

pub loop-piece-preserved : goal.loop-piece-preserved
loop-piece-preserved c = (
  group_step c.args.pieces.now c.loop-piece.piece-index c.piece-item.result c.loop-piece.groups.items c.add.new.groups.items
      c.loop-piece-test.true c.piece-item.is c.loop-piece.invariant.0 c.in_ok-add.ensures.groups,
  c.in_ok-add.ensures.keys,
)
