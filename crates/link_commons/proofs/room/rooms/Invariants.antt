use Rattle.std.proofs.Common.{◌≡◌, ◌++◌, drop}
use Rattle.link_commons.specs.Asked.{asked_in}
use Rattle.link_commons.proofs.RoomList.{rooms_from}
use Rattle.link_commons.proofs.room.rooms.Given as goal

abbrev pub invariant-loop-at : goal.invariant-loop-at
invariant-loop-at l =
    l.rooms.items ++ rooms_from (asked_in l.asked) l.at (drop l.at l.r.names) ≡ rooms_from (asked_in l.asked) 0 l.r.names
