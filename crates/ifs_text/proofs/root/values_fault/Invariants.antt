use Rattle.std.proofs.Common.{◌≡◌, drop}
use Rattle.ifs_text.specs.Maps.{first_of}
use Rattle.ifs_text.specs.Faults.{root_value_fault}
use Rattle.ifs_text.proofs.root.values_fault.Given as goal

abbrev pub invariant-loop-entry : goal.invariant-loop-entry
invariant-loop-entry l = first_of root_value_fault (drop l.entry-index l.entries) ≡ first_of root_value_fault l.entries
