use Rattle.std.proofs.Common.{◌≡◌, length}
use Rattle.ifs_bytes.specs.Places.{places}
use Rattle.yaml_maps.specs.Maps.{first_of, key_fault_at, texts}
use Rattle.yaml_maps.proofs.maps.key_fault.Given as goal

abbrev pub invariant-loop-i : goal.invariant-loop-i
invariant-loop-i l =
    first_of (key_fault_at (texts l.keys) l.entries) (places l.i (length l.entries)) ≡ first_of (key_fault_at (texts l.keys) l.entries) (places 0 (length l.entries))
