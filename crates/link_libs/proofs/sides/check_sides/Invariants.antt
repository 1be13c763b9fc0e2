use Rattle.std.proofs.Common.{◌≡◌, drop}
use Rattle.link_libs.proofs.Checked.{checked_from}
use Rattle.link_libs.proofs.sides.check_sides.Given as goal

abbrev pub invariant-loop-i : goal.invariant-loop-i
invariant-loop-i g l =
    checked_from g.S.SharedLib.facts l.i (drop l.i l.libs) ≡ checked_from g.S.SharedLib.facts 0 l.libs
