use Rattle.std.proofs.Common.{◌≡◌, drop}
use Rattle.std.specs.List.{find}
use Rattle.link_names.specs.Named.{is_twice}
use Rattle.link_names.proofs.checks.first_twice.Given as goal

abbrev pub invariant-loop-run : goal.invariant-loop-run
invariant-loop-run l = find is_twice (drop l.run-index l.runs) ≡ find is_twice l.runs
