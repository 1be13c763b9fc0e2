use Rattle.std.proofs.Common.{◌≡◌, ◌++◌, drop}
use Rattle.std.specs.List.{enumerate_from, filter_map}
use Rattle.link_pieces.specs.Marks.{member_for, members_by}
use Rattle.link_pieces.proofs.dropped.push_members.Given as goal

abbrev pub invariant-loop-section : goal.invariant-loop-section
invariant-loop-section l =
    l.all.items ++ filter_map (member_for l.object) (enumerate_from l.section (drop l.section l.flags))
    ≡ l.initial.all.items ++ members_by l.object l.flags
