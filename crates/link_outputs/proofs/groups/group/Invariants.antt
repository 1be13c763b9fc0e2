use Rattle.std.proofs.Common.{◌≡◌, take}
use Rattle.link_outputs.specs.Grouped.{AreKeysOf, grouped}
use Rattle.link_outputs.proofs.groups.group.Given as goal

abbrev pub invariant-loop-piece : goal.invariant-loop-piece
invariant-loop-piece l = (l.groups.items ≡ grouped (take l.piece-index l.pieces)) × AreKeysOf l.groups.items l.keys.keys
