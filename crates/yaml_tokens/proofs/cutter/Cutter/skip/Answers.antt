use Rattle.yaml_tokens.proofs.Steps.{skips}
use Rattle.yaml_tokens.proofs.cutter.Cutter.skip.Goals as goal

pub returns : goal.returns
returns c =
    skips c.self.inside.line_at c.self.inside.column c.self.inside.after_at c.self.inside.fresh c.is_fresh-self-inside.result c.self.inside.before
    c.self.inside.line.now c.passed-rest.result.now c.self.inside.after.now c.args.self.now c.self.view_is c.passed-rest.ensures.value c.is_fresh-self-inside.ensures
