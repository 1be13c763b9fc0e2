use Rattle.std.proofs.Common.{◌≡◌, take}
use Rattle.link_pieces.specs.Marks.{marked}
use Rattle.link_pieces.proofs.dropped.set_flags.Given as goal

abbrev pub invariant-loop-member : goal.invariant-loop-member
invariant-loop-member l = l.flags.items ≡ marked l.initial.flags.items (take l.member-index l.members)
