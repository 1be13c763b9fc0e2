use Rattle.std.proofs.Common.{◌≡◌, ◌<◌, ◌^◌, drop}
use Rattle.link_core.specs.Aligned.{end_from}
use Rattle.link_tables.specs.Capped.{capped}
use Rattle.link_places.proofs.segments.items_end.Given as goal

abbrev pub invariant-loop-item : goal.invariant-loop-item
invariant-loop-item l = record {
  ends :
      capped (end_from (λ item. item.align) (λ item. item.size) l.end (drop l.item-index l.items))
      ≡ capped (end_from (λ item. item.align) (λ item. item.size) 0 l.items);
  bounded : l.end < 2 ^ 128;
}
