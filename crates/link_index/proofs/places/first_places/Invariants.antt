use Rattle.std.proofs.Common.{take}
use Rattle.link_index.specs.Index.{ArePlaces}
use Rattle.link_index.proofs.places.first_places.Given as goal

abbrev pub invariant-loop-i : goal.invariant-loop-i
invariant-loop-i g l = ArePlaces g.K.PartialEq.eq (take l.i l.items) l.places
