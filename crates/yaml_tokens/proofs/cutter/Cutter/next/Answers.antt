use Rattle.yaml_tokens.proofs.Steps.{left_none}
use Rattle.yaml_tokens.proofs.cutter.Cutter.next.Goals as goal

pub returns-then-is_empty : goal.returns-then-is_empty
returns-then-is_empty c =
    left_none c.args.self.now c.loop-piece.self c.cut_line.new.self _ c.is_empty.result c.loop-piece.invariant.same c.in_default.ensures.0 c.in_default.ensures.1.0
    c.self.view_is c.is_empty.ensures c.if-is_empty.true
