use Rattle.std.proofs.Common.{◌-◌, drop, length}
use Rattle.link_where.specs.Commons.{AreFound}
use Rattle.link_where.proofs.commons.first_commons.Given as goal

abbrev pub invariant-loop-i : goal.invariant-loop-i
invariant-loop-i l = AreFound (drop (length l.commons - l.i) l.commons) l.found
