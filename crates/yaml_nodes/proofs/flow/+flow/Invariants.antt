use Rattle.std.proofs.Common.{◌≡◌, ◌+◌, ◌*◌, length}
use Rattle.yaml_nodes.specs.declared.flow.Brackets.TheVariants.{Curly, Square}
use Rattle.yaml_nodes.specs.Front.{behind}
use Rattle.yaml_nodes.specs.Lists.{listed}
use Rattle.yaml_nodes.specs.Flow.{closes, flow, flow_entry}
use Rattle.yaml_nodes.proofs.flow.+flow.Given as goal

abbrev pub invariant-flow_map-loop-first : goal.invariant-flow_map-loop-first
invariant-flow_map-loop-first l =
    listed (flow_entry (flow l.depth)) (closes Curly) (length l.fn.tokens) l.fn.tokens ≡ behind l.entries.items (listed (flow_entry (flow l.depth)) (closes Curly) (length l.rest) l.rest)

abbrev pub decreases-flow_map-loop-first : goal.decreases-flow_map-loop-first
decreases-flow_map-loop-first l = length l.rest

abbrev pub invariant-flow_seq-loop-first : goal.invariant-flow_seq-loop-first
invariant-flow_seq-loop-first l =
    listed (flow l.depth) (closes Square) (length l.fn.tokens) l.fn.tokens ≡ behind l.items.items (listed (flow l.depth) (closes Square) (length l.rest) l.rest)

abbrev pub decreases-flow_seq-loop-first : goal.decreases-flow_seq-loop-first
decreases-flow_seq-loop-first l = length l.rest

abbrev pub decreases-flow_first : goal.decreases-flow_first
decreases-flow_first l = 6 * l.depth

abbrev pub decreases-flow_value : goal.decreases-flow_value
decreases-flow_value l = 6 * l.depth + 1

abbrev pub decreases-behind_key : goal.decreases-behind_key
decreases-behind_key l = 6 * l.depth + 2

abbrev pub decreases-flow_entry : goal.decreases-flow_entry
decreases-flow_entry l = 6 * l.depth + 3

abbrev pub decreases-flow_map : goal.decreases-flow_map
decreases-flow_map l = 6 * l.depth + 4

abbrev pub decreases-flow_seq : goal.decreases-flow_seq
decreases-flow_seq l = 6 * l.depth + 4

abbrev pub decreases-flow_with : goal.decreases-flow_with
decreases-flow_with l = 6 * l.depth + 5
