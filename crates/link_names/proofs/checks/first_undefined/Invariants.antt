use Rattle.std.proofs.Common.{◌≡◌, drop}
use Rattle.std.specs.List.{find}
use Rattle.link_names.specs.Named.{is_undefined}
use Rattle.link_names.proofs.checks.first_undefined.Given as goal

abbrev pub invariant-loop-name : goal.invariant-loop-name
invariant-loop-name l = find is_undefined (drop l.name-index l.names) ≡ find is_undefined l.names
