use Rattle.std.proofs.Common.{◌≡◌, ◌++◌, drop}
use Rattle.ifs_interface.specs.Triple.{same_name}
use Rattle.link_core.specs.Exports.{needed_names}
use Rattle.link_core.specs.Lists.{once}
use Rattle.link_binding.specs.Libraries.{libraries_seen, seen}
use Rattle.link_checks.proofs.Listed.{asked_from, fresh}
use Rattle.link_checks.proofs.needed.needed_names.Given as goal

abbrev pub invariant-loop-i : goal.invariant-loop-i
invariant-loop-i g l =
    l.needed.items ++ fresh l.needed.items (once same_name (asked_from (seen g.S.SharedLib.facts) l.options l.rows l.i (drop l.i l.libs)))
    ≡ needed_names l.options (libraries_seen g.S.SharedLib.facts l.libs) l.rows
