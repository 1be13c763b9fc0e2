use Rattle.std.proofs.Common.{sym, ◌∙◌, true, false}
use Rattle.yaml_nodes.specs.Flow.{flow}
use Rattle.yaml_nodes.specs.Block.{map_goes_on, seq_goes_on, block_value, block_entry, block_item, block}
use Rattle.yaml_nodes.proofs.BlockAgrees.{entry_shrinks, item_shrinks}
use Rattle.yaml_nodes.proofs.Rounds.{lined_falls, lined_round}
use Rattle.yaml_nodes.proofs.block.+block.Goals as goal

pub block_map-loop-entries-smaller : goal.block_map-loop-entries-smaller
block_map-loop-entries-smaller t c =
    lined_falls (block_entry (block_value (flow c.args.depth) (block c.args.depth) true c.args.column)) (entry_shrinks c.args.depth c.args.column) c.in-Some.found
    c.loop-entries.rest c.into_parts-entry.result.1 c.tail-rest.result (sym c.in-Some.is ∙ c.in_ok-found.ensures) c.into_parts-entry.ensures.rest c.tail-rest.ensures

pub block_map-loop-entries-preserved : goal.block_map-loop-entries-preserved
block_map-loop-entries-preserved t c =
    lined_round (block_entry (block_value (flow c.args.depth) (block c.args.depth) true c.args.column)) (entry_shrinks c.args.depth c.args.column) (map_goes_on c.args.column)
    c.loop-entries.entries.items c.push_item.new.items.items c.into_parts-entry.result.0 c.in-Some.found c.loop-entries.rest c.into_parts-entry.result.1 c.tail-rest.result _
    (sym c.in-Some.is ∙ c.in_ok-found.ensures) c.into_parts-entry.ensures.value c.into_parts-entry.ensures.rest (sym c.if-not-map_goes_on.ensures) c.in_ok-push_item.ensures c.tail-rest.ensures
    c.loop-entries.invariant

pub block_seq-loop-items-smaller : goal.block_seq-loop-items-smaller
block_seq-loop-items-smaller t c =
    lined_falls (block_item (block c.args.depth) (block_value (flow c.args.depth) (block c.args.depth) false c.args.column)) (item_shrinks c.args.depth c.args.column) c.in-Some.found
    c.loop-items.rest c.into_parts-item.result.1 c.tail-rest.result (sym c.in-Some.is ∙ c.in_ok-found.ensures) c.into_parts-item.ensures.rest c.tail-rest.ensures

pub block_seq-loop-items-preserved : goal.block_seq-loop-items-preserved
block_seq-loop-items-preserved t c =
    lined_round (block_item (block c.args.depth) (block_value (flow c.args.depth) (block c.args.depth) false c.args.column)) (item_shrinks c.args.depth c.args.column) (seq_goes_on c.args.column)
    c.loop-items.items.items c.push_item.new.items.items c.into_parts-item.result.0 c.in-Some.found c.loop-items.rest c.into_parts-item.result.1 c.tail-rest.result _
    (sym c.in-Some.is ∙ c.in_ok-found.ensures) c.into_parts-item.ensures.value c.into_parts-item.ensures.rest (sym c.if-not-seq_goes_on.ensures) c.in_ok-push_item.ensures c.tail-rest.ensures
    c.loop-items.invariant
