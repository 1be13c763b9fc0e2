use Rattle.std.proofs.Common.{◌≡◌, drop}
use Rattle.ifs_text.specs.Maps.{first_of}
use Rattle.ifs_text.specs.Faults.{symbol_value_fault}
use Rattle.ifs_text.proofs.symbols.symbol_values_fault.Given as goal

abbrev pub invariant-loop-entry : goal.invariant-loop-entry
invariant-loop-entry l = first_of symbol_value_fault (drop l.entry-index l.entries) ≡ first_of symbol_value_fault l.entries
