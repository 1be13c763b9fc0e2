use Rattle.std.proofs.Common.{◌≡◌, ◌+◌, ◌*◌, ◌≤◌, length}
use Rattle.yaml_tokens.specs.Pieces.{pieces_of}
use Rattle.yaml_tokens.specs.Places.{left, work}
use Rattle.yaml_tokens.specs.Least.{first_of}
use Rattle.yaml_tokens.specs.Faults.{least, unclosed}
use Rattle.yaml_tokens.specs.Brackets.{open_count}
use Rattle.yaml_tokens.proofs.Turns.{found_by}
use Rattle.yaml_tokens.proofs.fault.fault_of_pieces.Given as goal

abbrev pub invariant-loop-piece : goal.invariant-loop-piece
invariant-loop-piece l = record {
  least_so_far : first_of l.fault (least (left l.cutter)) ≡ least (pieces_of l.text);
  unclosed_so_far : found_by l.brackets (left l.cutter) ≡ unclosed (pieces_of l.text);
  count : open_count l.brackets + work l.cutter ≤ 2 * length l.text;
}

abbrev pub decreases-loop-piece : goal.decreases-loop-piece
decreases-loop-piece l = work l.cutter
