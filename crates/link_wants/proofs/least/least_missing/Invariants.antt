use Rattle.std.proofs.Common.{◌≡◌, ◌≤◌, drop, length}
use Rattle.std.specs.Option.{option_copied}
use Rattle.link_binding.specs.Libraries.{libraries_seen}
use Rattle.link_wants.specs.Least.{is_missing_by, least_from}
use Rattle.link_wants.proofs.least.least_missing.Given as goal

abbrev pub invariant-loop-i : goal.invariant-loop-i
invariant-loop-i g l = record {
  within : l.i ≤ length (g.S.SharedLib.wanted_list l.lib);
  value : option_copied l.least ≡ least_from (is_missing_by l.names (libraries_seen g.S.SharedLib.facts l.libs) l.sections) (drop l.i (g.S.SharedLib.wanted_list l.lib));
}

abbrev pub decreases-loop-i : goal.decreases-loop-i
decreases-loop-i g l = l.i
