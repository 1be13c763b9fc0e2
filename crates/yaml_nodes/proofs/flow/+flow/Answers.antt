use Rattle.std.proofs.Common.{sym, ap, ◌∙◌}
use Rattle.yaml_nodes.specs.declared.flow.Brackets.TheVariants.{Curly, Square}
use Rattle.yaml_nodes.specs.Lists.{begins_with}
use Rattle.yaml_nodes.specs.Flow.{closes, flow, flow_entry}
use Rattle.yaml_nodes.proofs.FlowAgrees.{flow_shrinks, entry_shrinks}
use Rattle.yaml_nodes.proofs.Rounds.{listed_falls, listed_round}
use Rattle.yaml_nodes.proofs.flow.+flow.Goals as goal

pub flow_seq-loop-first-smaller : goal.flow_seq-loop-first-smaller
flow_seq-loop-first-smaller t c =
    listed_falls (flow c.args.depth) (flow_shrinks c.args.depth) (closes Square) c.in-Some-2.found c.loop-first.rest c.into_parts-item.result.1 c.in-Some-next_item.more
    (sym c.in-Some-2.is ∙ c.in_ok-found.ensures ∙ ap (flow c.args.depth) c.in-Some.ensures) c.into_parts-item.ensures.rest c.in-Some-next_item.ensures

pub flow_seq-loop-first-preserved : goal.flow_seq-loop-first-preserved
flow_seq-loop-first-preserved t c =
    listed_round (flow c.args.depth) (flow_shrinks c.args.depth) (closes Square) c.loop-first.items.items c.push_item.new.items.items c.into_parts-item.result.0 c.in-Some-2.found
    c.loop-first.rest c.into_parts-item.result.1 c.in-Some-next_item.more _ (ap (begins_with (closes Square)) (sym c.in-Some.ensures) ∙ sym c.if-is_closed_by.ensures)
    (sym c.in-Some-2.is ∙ c.in_ok-found.ensures ∙ ap (flow c.args.depth) c.in-Some.ensures) c.into_parts-item.ensures.value
    c.into_parts-item.ensures.rest c.in-Some-next_item.ensures c.in_ok-push_item.ensures c.loop-first.invariant

pub flow_map-loop-first-smaller : goal.flow_map-loop-first-smaller
flow_map-loop-first-smaller t c =
    listed_falls (flow_entry (flow c.args.depth)) (entry_shrinks c.args.depth) (closes Curly) c.in-Some-2.found c.loop-first.rest c.into_parts-entry.result.1 c.in-Some-next_item.more
    (sym c.in-Some-2.is ∙ c.in_ok-found.ensures ∙ ap (flow_entry (flow c.args.depth)) c.in-Some.ensures) c.into_parts-entry.ensures.rest c.in-Some-next_item.ensures

pub flow_map-loop-first-preserved : goal.flow_map-loop-first-preserved
flow_map-loop-first-preserved t c =
    listed_round (flow_entry (flow c.args.depth)) (entry_shrinks c.args.depth) (closes Curly) c.loop-first.entries.items c.push_item.new.items.items c.into_parts-entry.result.0 c.in-Some-2.found
    c.loop-first.rest c.into_parts-entry.result.1 c.in-Some-next_item.more _ (ap (begins_with (closes Curly)) (sym c.in-Some.ensures) ∙ sym c.if-is_closed_by.ensures)
    (sym c.in-Some-2.is ∙ c.in_ok-found.ensures ∙ ap (flow_entry (flow c.args.depth)) c.in-Some.ensures) c.into_parts-entry.ensures.value
    c.into_parts-entry.ensures.rest c.in-Some-next_item.ensures c.in_ok-push_item.ensures c.loop-first.invariant
