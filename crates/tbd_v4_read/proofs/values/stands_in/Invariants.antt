use Rattle.std.proofs.Common.{◌≡◌, drop}
use Rattle.std.specs.List.{list_any}
use Rattle.yaml_nodes.specs.Nodes.{text_of}
use Rattle.tbd_v4_read.specs.Values.{is_text}
use Rattle.tbd_v4_read.proofs.values.stands_in.Given as goal

abbrev pub invariant-loop-item : goal.invariant-loop-item
invariant-loop-item l = list_any (λ item. is_text l.name (text_of item)) (drop l.item-index l.items) ≡ list_any (λ item. is_text l.name (text_of item)) l.items
