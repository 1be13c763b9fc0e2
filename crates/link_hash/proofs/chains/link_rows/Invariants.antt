use Rattle.std.proofs.Common.{◌-◌}
use Rattle.link_hash.specs.Chained.{Chained, names_of}
use Rattle.link_hash.proofs.chains.link_rows.Given as goal

abbrev pub invariant-loop-behind : goal.invariant-loop-behind
invariant-loop-behind l = Chained (names_of l.names) (l.count - l.behind) l.heads.items l.nexts.items
