use Rattle.std.proofs.Common.{◌≡◌, map}
use Rattle.link_checks.proofs.needed.rows_of.Given as goal

abbrev pub invariant-loop-name : goal.invariant-loop-name
invariant-loop-name l = l.rows.items ≡ map (λ n. n.row) l.yielded
