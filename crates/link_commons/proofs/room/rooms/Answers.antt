use Rattle.std.proofs.Common.{◌≤◌, length, ap, arith}
use Rattle.link_commons.specs.Asked.{asked_in}
use Rattle.link_commons.proofs.RoomList.{rooms_by, rooms_end, rooms_from}
use Rattle.link_commons.proofs.room.rooms.Goals as goal

pub returns : goal.returns
returns c =
    let asked = asked_in c.in_ok-asked.asked in
    let names = c.args.r.now.names in
    let past : length names ≤ c.loop-at.at = omega (arith, ap length c.as_slice-row-items.ensures) in
    rooms_by asked c.args.objects.now c.args.r.now c.loop-at.rooms.items c.in_ok-asked.ensures
    (rooms_end asked names c.loop-at.at c.loop-at.rooms.items (rooms_from asked 0 names) past c.loop-at.invariant)
