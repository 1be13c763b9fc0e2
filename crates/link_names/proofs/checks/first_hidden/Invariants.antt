use Rattle.std.proofs.Common.{◌≡◌, drop}
use Rattle.std.specs.List.{find}
use Rattle.link_names.specs.Named.{is_hidden}
use Rattle.link_names.proofs.checks.first_hidden.Given as goal

abbrev pub invariant-loop-name : goal.invariant-loop-name
invariant-loop-name l = find is_hidden (drop l.name-index l.names) ≡ find is_hidden l.names
