use Rattle.std.proofs.Common.{◌≡◌, ◌++◌, drop}
use Rattle.link_positions.specs.Standing.{commons_in, pieces_in}
use Rattle.link_positions.proofs.standing.push_outputs.Given as goal

abbrev pub invariant-loop-output : goal.invariant-loop-output
invariant-loop-output l = record {
  pieces :
      l.pieces.items ++ pieces_in l.sections l.next (drop l.output-index l.outputs)
      ≡ l.fn.pieces.items ++ pieces_in l.sections l.fn.first l.outputs;
  commons :
      l.commons.items ++ commons_in l.sections l.next (drop l.output-index l.outputs)
      ≡ l.fn.commons.items ++ commons_in l.sections l.fn.first l.outputs;
}
