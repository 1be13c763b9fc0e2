use Rattle.std.proofs.Common.{◌≡◌, ◌++◌, map, take}
use Rattle.link_filled.specs.Fills.{room_item}
use Rattle.link_filled.proofs.filling.push_rooms.Given as goal

abbrev pub invariant-loop-room : goal.invariant-loop-room
invariant-loop-room l = l.items.items ≡ l.initial.items.items ++ map room_item (take l.room-index l.rooms)
