use Rattle.std.proofs.Common.{◌≡◌, ◌≤◌, ◌-◌, ◌++◌, length, drop}
use Rattle.ifs_stub.specs.Rows.{pointed, symbols_by_name}
use Rattle.ifs_stub.proofs.collapse.collapsed.Given as goal

abbrev pub invariant-loop-start : goal.invariant-loop-start
invariant-loop-start l =
    (l.start ≤ length l.rows) × (l.symbols.items ++ symbols_by_name (drop l.start (pointed l.rows)) ≡ symbols_by_name (pointed l.rows))

abbrev pub decreases-loop-start : goal.decreases-loop-start
decreases-loop-start l = length l.rows - l.start
