use Rattle.std.proofs.Common.{◌≡◌, drop}
use Rattle.yaml_maps.specs.Maps.{is_among, texts}
use Rattle.yaml_maps.proofs.maps.is_among.Given as goal

abbrev pub invariant-loop-other : goal.invariant-loop-other
invariant-loop-other l = is_among l.name (texts (drop l.other-index l.names)) ≡ is_among l.name (texts l.names)
