use Rattle.std.proofs.Common.{◌≡◌, length}
use Rattle.ifs_bytes.specs.Places.{places}
use Rattle.ifs_text.specs.Maps.{first_of, key_fault_at}
use Rattle.ifs_text.proofs.maps.key_fault.Given as goal

abbrev pub invariant-loop-i : goal.invariant-loop-i
invariant-loop-i l =
    first_of (key_fault_at l.kind l.entries) (places l.i (length l.entries)) ≡ first_of (key_fault_at l.kind l.entries) (places 0 (length l.entries))
