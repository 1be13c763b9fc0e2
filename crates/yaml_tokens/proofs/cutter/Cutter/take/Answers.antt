use Rattle.yaml_tokens.proofs.Steps.{takes}
use Rattle.yaml_tokens.proofs.cutter.Cutter.take.Goals as goal

pub returns : goal.returns
returns c =
    takes c.self.inside.line_at c.self.inside.column c.self.inside.after_at c.args.byte c.self.inside.fresh c.ends_blank-self-inside.result
    c.self.inside.before c.after-self-inside.result c.self.inside.line.now c.split_at.result.0.now c.split_at-2.result.1.now c.args.rest.now
    c.self.inside.after.now c.front_of-found.result c.new-piece.result c.args.self.now c.self.view_is c.requires.line c.requires.begins
    c.front_of-found.ensures.value c.split_at.ensures.front c.split_at-2.ensures.back c.ends_blank-self-inside.ensures c.after-self-inside.ensures c.new-piece.ensures
