use Rattle.std.proofs.Common.{◌≡◌, ◌++◌, map, take}
use Rattle.link_filled.specs.Fills.{filled_by}
use Rattle.link_filled.proofs.filling.push_filled.Given as goal

abbrev pub invariant-loop-group : goal.invariant-loop-group
invariant-loop-group l = l.all.items ≡ l.initial.all.items ++ map (filled_by l.rooms) (take l.group-index l.groups)
