use Rattle.std.proofs.Common.{◌≡◌, ◌≤◌, ◌-◌, length, drop}
use Rattle.ifs_edit.specs.Merged.{by_name, united_each}
use Rattle.ifs_edit.specs.Sorted.{pointed}
use Rattle.ifs_edit.proofs.Uniting.{behind_united}
use Rattle.ifs_edit.proofs.sorted.united_each.Given as goal

-- what was done, before what is left
abbrev pub invariant-loop-start : goal.invariant-loop-start
invariant-loop-start l = record {
  within : l.start ≤ length l.sorted;
  value : united_each (by_name (pointed l.sorted)) ≡ behind_united l.symbols.items (united_each (by_name (drop l.start (pointed l.sorted))));
}

abbrev pub decreases-loop-start : goal.decreases-loop-start
decreases-loop-start l = length l.sorted - l.start
