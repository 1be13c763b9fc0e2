use Rattle.std.proofs.Common.{◌≡◌, ◌*◌, ◌≤◌, ◌++◌, drop}
use Rattle.link_index.specs.Index.{starts_from}
use Rattle.link_index.proofs.words.starts_from.Given as goal

abbrev pub invariant-loop-slot : goal.invariant-loop-slot
invariant-loop-slot l =
    (l.starts.items ++ starts_from l.total (drop l.slot-index l.got) ≡ starts_from 0 l.got) × (l.total ≤ 2 * l.slot-index)
