use Rattle.std.proofs.Common.{◌≡◌, ◌++◌, replicate}
use Rattle.ifs_stub.proofs.strings.put_gap.Given as goal

abbrev pub invariant-loop-turn : goal.invariant-loop-turn
invariant-loop-turn l = l.out.items ≡ l.fn.out.items ++ replicate l._turn 0
