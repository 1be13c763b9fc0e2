use Rattle.std.proofs.Common.{◌≡◌, ◌+◌, ◌<◌, ◌^◌, drop}
use Rattle.link_tables.specs.Capped.{capped}
use Rattle.link_tables.specs.Names.{rows_room}
use Rattle.link_tables.proofs.names.rows_room.Given as goal

abbrev pub invariant-loop-n : goal.invariant-loop-n
invariant-loop-n l = record {
  counted : capped (l.total + rows_room l.names (drop l.n-index l.rows)) ≡ capped (rows_room l.names l.rows);
  bounded : l.total < 2 ^ 128;
}
