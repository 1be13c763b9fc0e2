use Rattle.std.proofs.Common.{◌≡◌, ◌+◌, ◌<◌, ◌^◌, drop}
use Rattle.link_tables.specs.Capped.{capped}
use Rattle.link_tables.specs.Fills.{words_in}
use Rattle.link_tables.proofs.fills.words_in.Given as goal

abbrev pub invariant-loop-slot : goal.invariant-loop-slot
invariant-loop-slot l = record {
  counted : capped (l.total + words_in (drop l.slot-index l.got)) ≡ capped (words_in l.got);
  bounded : l.total < 2 ^ 128;
}
