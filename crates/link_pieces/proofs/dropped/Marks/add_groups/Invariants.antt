use Rattle.std.proofs.Common.{◌≡◌, take}
use Rattle.std.specs.Prelude.{fold}
use Rattle.link_pieces.specs.Marks.{after_group}
use Rattle.link_pieces.proofs.dropped.Marks.add_groups.Given as goal

abbrev pub invariant-loop-group : goal.invariant-loop-group
invariant-loop-group l = l.self ≡ fold after_group l.initial.self (take l.group-index l.groups)
