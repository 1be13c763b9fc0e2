use Rattle.std.proofs.Common.{◌≡◌, map, drop}
use Rattle.yaml_nodes.specs.Nodes.{key_of}
use Rattle.yaml_maps.specs.Maps.{is_among}
use Rattle.yaml_maps.proofs.maps.has_entry.Given as goal

abbrev pub invariant-loop-entry : goal.invariant-loop-entry
invariant-loop-entry l = is_among l.key (map key_of (drop l.entry-index l.entries)) ≡ is_among l.key (map key_of l.entries)
