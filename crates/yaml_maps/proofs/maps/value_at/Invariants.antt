use Rattle.std.proofs.Common.{◌≡◌, drop}
use Rattle.std.specs.List.{find}
use Rattle.ifs_interface.specs.Triple.{same_name}
use Rattle.yaml_nodes.specs.Nodes.{key_of}
use Rattle.yaml_maps.proofs.maps.value_at.Given as goal

abbrev pub invariant-loop-entry : goal.invariant-loop-entry
invariant-loop-entry l = find (λ e. same_name (key_of e) l.key) (drop l.entry-index l.entries) ≡ find (λ e. same_name (key_of e) l.key) l.entries
