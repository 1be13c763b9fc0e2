use Rattle.std.proofs.Common.{◌≡◌, not, drop}
use Rattle.std.specs.List.{find}
use Rattle.ifs_edit.specs.Merged.{same_in}
use Rattle.ifs_edit.specs.Sorted.{pointed}
use Rattle.ifs_edit.proofs.united.first_unlike.Given as goal

-- what is left has the answer
abbrev pub invariant-loop-symbol : goal.invariant-loop-symbol
invariant-loop-symbol l = find (λ s. not (same_in l.field l.one s)) (pointed (drop l.symbol-index l.symbols)) ≡ find (λ s. not (same_in l.field l.one s)) (pointed l.symbols)
