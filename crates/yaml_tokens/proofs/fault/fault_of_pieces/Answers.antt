use Rattle.std.proofs.Common.{ap, ◌∙◌, arith}
use Rattle.yaml_tokens.specs.Least.{first_of}
use Rattle.yaml_tokens.specs.Faults.{least, unclosed, piece_fault}
use Rattle.yaml_tokens.proofs.Turns.{none_first_of, least_turn, found_turn, count_turn, fault_end}
use Rattle.yaml_tokens.proofs.fault.fault_of_pieces.Goals as goal

pub loop-piece-init : goal.loop-piece-init
loop-piece-init c = record {
  least_so_far = none_first_of _ ∙ ap least c.new-cutter.ensures.left;
  unclosed_so_far = ap unclosed c.new-cutter.ensures.left;
  count = omega arith;
}

pub loop-piece-preserved : goal.loop-piece-preserved
loop-piece-preserved c = record {
  least_so_far =
      least_turn c.loop-piece.fault c.first_of-fault.result c.in-Some.piece _ _ _
      (c.first_of-fault.ensures ∙ ap (first_of c.loop-piece.fault) c.own_fault.ensures) c.in-Some.ensures.0 c.loop-piece.invariant.least_so_far;
  unclosed_so_far =
      found_turn c.loop-piece.brackets c.turn-brackets.result c.in-Some.piece _ _ _ c.turn-brackets.ensures c.in-Some.ensures.0 c.loop-piece.invariant.unclosed_so_far;
  count = omega (arith, count_turn c.loop-piece.brackets c.turn-brackets.result c.in-Some.piece c.turn-brackets.ensures, c.in-Some.ensures.1);
}

pub returns : goal.returns
unfolding piece_fault
returns c =
    c.first_of.ensures
    ∙ fault_end c.loop-piece.fault c.unclosed.result _ _ c.loop-piece.brackets _ c.in_default.ensures c.loop-piece.invariant.least_so_far c.loop-piece.invariant.unclosed_so_far c.unclosed.ensures
