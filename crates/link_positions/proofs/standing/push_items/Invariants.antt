use Rattle.std.proofs.Common.{◌≡◌, ◌++◌, drop}
use Rattle.link_positions.specs.Standing.{commons_from, pieces_from}
use Rattle.link_positions.proofs.standing.push_items.Given as goal

abbrev pub invariant-loop-item : goal.invariant-loop-item
invariant-loop-item l = record {
  pieces :
      l.pieces.items ++ pieces_from l.out l.address l.end (drop l.item-index l.items)
      ≡ l.fn.pieces.items ++ pieces_from l.out l.address 0 l.items;
  commons :
      l.commons.items ++ commons_from l.address l.end (drop l.item-index l.items)
      ≡ l.fn.commons.items ++ commons_from l.address 0 l.items;
}
