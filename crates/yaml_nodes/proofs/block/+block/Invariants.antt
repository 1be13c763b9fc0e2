use Rattle.std.proofs.Common.{◌≡◌, ◌+◌, ◌*◌, length, true, false}
use Rattle.yaml_nodes.specs.Front.{behind}
use Rattle.yaml_nodes.specs.Lists.{lined}
use Rattle.yaml_nodes.specs.Flow.{flow}
use Rattle.yaml_nodes.specs.Block.{map_goes_on, seq_goes_on, block_value, block_entry, block_item, block}
use Rattle.yaml_nodes.proofs.block.+block.Given as goal

abbrev pub invariant-block_map-loop-entries : goal.invariant-block_map-loop-entries
invariant-block_map-loop-entries l =
    lined (block_entry (block_value (flow l.depth) (block l.depth) true l.column)) (map_goes_on l.column) (length l.fn.tokens) l.fn.tokens
    ≡ behind l.entries.items (lined (block_entry (block_value (flow l.depth) (block l.depth) true l.column)) (map_goes_on l.column) (length l.rest) l.rest)

abbrev pub decreases-block_map-loop-entries : goal.decreases-block_map-loop-entries
decreases-block_map-loop-entries l = length l.rest

abbrev pub invariant-block_seq-loop-items : goal.invariant-block_seq-loop-items
invariant-block_seq-loop-items l =
    lined (block_item (block l.depth) (block_value (flow l.depth) (block l.depth) false l.column)) (seq_goes_on l.column) (length l.fn.tokens) l.fn.tokens
    ≡ behind l.items.items (lined (block_item (block l.depth) (block_value (flow l.depth) (block l.depth) false l.column)) (seq_goes_on l.column) (length l.rest) l.rest)

abbrev pub decreases-block_seq-loop-items : goal.decreases-block_seq-loop-items
decreases-block_seq-loop-items l = length l.rest

abbrev pub decreases-block_node : goal.decreases-block_node
decreases-block_node l = 5 * l.depth

abbrev pub decreases-block_value : goal.decreases-block_value
decreases-block_value l = 5 * l.depth + 1

abbrev pub decreases-block_item : goal.decreases-block_item
decreases-block_item l = 5 * l.depth + 2

abbrev pub decreases-block_entry : goal.decreases-block_entry
decreases-block_entry l = 5 * l.depth + 2

abbrev pub decreases-block_map : goal.decreases-block_map
decreases-block_map l = 5 * l.depth + 3

abbrev pub decreases-block_seq : goal.decreases-block_seq
decreases-block_seq l = 5 * l.depth + 3

abbrev pub decreases-block_with : goal.decreases-block_with
decreases-block_with l = 5 * l.depth + 4
