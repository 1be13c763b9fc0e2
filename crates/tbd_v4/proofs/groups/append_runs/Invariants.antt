use Rattle.std.proofs.Common.{◌≡◌, ◌≤◌, ◌-◌, ◌++◌, length, drop}
use Rattle.tbd_v4.specs.Lines.{groups_text}
use Rattle.tbd_v4.proofs.groups.append_runs.Given as goal

-- what was appended, before what is left
abbrev pub invariant-loop-start : goal.invariant-loop-start
invariant-loop-start l = record {
  within : l.start ≤ length l.sorted;
  text : l.fn.out ++ groups_text l.alone l.targets l.sorted ≡ l.out ++ groups_text l.alone l.targets (drop l.start l.sorted);
}

abbrev pub decreases-loop-start : goal.decreases-loop-start
decreases-loop-start l = length l.sorted - l.start
