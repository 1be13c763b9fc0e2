use Rattle.std.proofs.Common.{◌≡◌, ◌++◌, take}
use Rattle.std.specs.List.{flat_map}
use Rattle.yaml_profile.specs.Printed.{escaped}
use Rattle.yaml_profile.proofs.printed.append_escaping.Given as goal

abbrev pub invariant-loop-byte : goal.invariant-loop-byte
invariant-loop-byte l = l.out ≡ l.fn.out ++ flat_map escaped (take l.byte-index l.text)
