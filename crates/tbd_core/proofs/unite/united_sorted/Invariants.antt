use Rattle.std.proofs.Common.{◌≡◌, ◌≤◌, ◌-◌, ◌++◌, map, length, drop}
use Rattle.tbd_core.specs.Keys.{key_of}
use Rattle.tbd_core.specs.Groups.{grouped}
use Rattle.tbd_core.specs.Union.{united, united_symbol}
use Rattle.tbd_core.proofs.unite.united_sorted.Given as goal

-- what was done, before what is left
abbrev pub invariant-loop-start : goal.invariant-loop-start
invariant-loop-start l = record {
  within : l.start ≤ length l.sorted;
  value : united l.sorted ≡ l.symbols.items ++ map united_symbol (grouped key_of (drop l.start l.sorted));
}

abbrev pub decreases-loop-start : goal.decreases-loop-start
decreases-loop-start l = length l.sorted - l.start
