use Rattle.std.proofs.Common.{◌≡◌, ◌+◌, ◌<◌, ◌^◌, drop}
use Rattle.link_tables.specs.Capped.{capped}
use Rattle.link_tables.specs.Fills.{fills_in}
use Rattle.link_tables.proofs.fills.fills_in.Given as goal

abbrev pub invariant-loop-slot : goal.invariant-loop-slot
invariant-loop-slot l = record {
  counted :
      capped (l.total + fills_in l.objects l.names l.kind (drop l.slot-index l.got))
      ≡ capped (fills_in l.objects l.names l.kind l.got);
  bounded : l.total < 2 ^ 128;
}
