use Rattle.std.proofs.Common.{◌-◌, drop, length}
use Rattle.link_dynsym.specs.Rows.{AreFound}
use Rattle.link_dynsym.proofs.commons.first_rooms.Given as goal

abbrev pub invariant-loop-i : goal.invariant-loop-i
invariant-loop-i l = AreFound (drop (length l.rooms - l.i) l.rooms) l.found
