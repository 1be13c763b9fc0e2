use Rattle.std.proofs.Common.{◌≡◌, take}
use Rattle.std.specs.Prelude.{fold}
use Rattle.std.specs.List.{enumerate_from}
use Rattle.link_pieces.specs.Marks.{done, after_object}
use Rattle.link_pieces.proofs.Marked.{nothing}
use Rattle.link_pieces.proofs.dropped.dropped_sections.Given as goal

abbrev pub invariant-loop-i : goal.invariant-loop-i
invariant-loop-i l = done l.marks.seen l.all.items ≡ fold after_object nothing (take l.i (enumerate_from 0 l.objects))
