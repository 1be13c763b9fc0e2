use Rattle.std.proofs.Common.{◌≡◌, ◌+◌, ◌<◌, ◌^◌, drop}
use Rattle.link_tables.specs.Capped.{capped}
use Rattle.link_tables.specs.Names.{texts_room}
use Rattle.link_tables.proofs.names.texts_room.Given as goal

abbrev pub invariant-loop-text : goal.invariant-loop-text
invariant-loop-text l = record {
  counted : capped (l.total + texts_room (drop l.text-index l.texts)) ≡ capped (texts_room l.texts);
  bounded : l.total < 2 ^ 128;
}
