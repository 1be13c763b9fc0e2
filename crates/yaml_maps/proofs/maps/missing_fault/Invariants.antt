use Rattle.std.proofs.Common.{◌≡◌, map, drop}
use Rattle.yaml_nodes.specs.Nodes.{key_of}
use Rattle.yaml_maps.specs.Maps.{first_of, missing, texts}
use Rattle.yaml_maps.proofs.maps.missing_fault.Given as goal

abbrev pub invariant-loop-key : goal.invariant-loop-key
invariant-loop-key l =
    first_of (missing (map key_of l.entries)) (texts (drop l.key-index l.needed)) ≡ first_of (missing (map key_of l.entries)) (texts l.needed)
