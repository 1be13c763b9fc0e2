use Rattle.std.proofs.Common.{◌≡◌, ◌≤◌}
use Rattle.yaml_tokens.specs.Places.{left, work}
use Rattle.yaml_tokens.proofs.cutter.Cutter.next.Given as goal

abbrev pub invariant-loop-piece : goal.invariant-loop-piece
invariant-loop-piece l = record {
  same : left l.fn.self ≡ left l.self;
  work_left : work l.self ≤ work l.fn.self;
}

abbrev pub decreases-loop-piece : goal.decreases-loop-piece
decreases-loop-piece l = work l.self
