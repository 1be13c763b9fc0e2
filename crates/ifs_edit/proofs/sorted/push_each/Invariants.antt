use Rattle.std.proofs.Common.{◌≡◌, ◌++◌, take}
use Rattle.ifs_edit.specs.Sorted.{pointed}
use Rattle.ifs_edit.proofs.sorted.push_each.Given as goal

abbrev pub invariant-loop-symbol : goal.invariant-loop-symbol
invariant-loop-symbol l = pointed l.all.items ≡ pointed l.fn.all.items ++ take l.symbol-index l.symbols
