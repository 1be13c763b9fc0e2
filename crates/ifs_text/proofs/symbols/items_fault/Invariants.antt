use Rattle.std.proofs.Common.{◌≡◌, drop}
use Rattle.ifs_text.specs.Maps.{first_of}
use Rattle.ifs_text.specs.Faults.{symbol_fault}
use Rattle.ifs_text.proofs.symbols.items_fault.Given as goal

abbrev pub invariant-loop-item : goal.invariant-loop-item
invariant-loop-item l = first_of (symbol_fault l.key) (drop l.item-index l.items) ≡ first_of (symbol_fault l.key) l.items
