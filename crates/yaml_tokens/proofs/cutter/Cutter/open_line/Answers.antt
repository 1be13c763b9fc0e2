use Rattle.std.proofs.Common.{rules}
use Rattle.yaml_tokens.proofs.Steps.{line_opened, line_behind}
use Rattle.yaml_tokens.proofs.cutter.Cutter.open_line.Goals as goal

pub returns : goal.returns
returns c =
    line_opened c.self.inside.line_at c.self.inside.column c.self.inside.after_at c.line_size.result c.self.inside.fresh c.self.inside.before c.opened-self-inside.result
    c.self.inside.line.now c.split_at.result.0.now c.content-self-inside.result.now c.self.inside.after.now c.behind_line-rest.result.now
    c.class_of-class.result c.opening-piece.result c.args.self.now c.self.view_is c.requires.line c.requires.after
    c.line_size.ensures.value c.split_at.ensures.front c.split_at.ensures.front_len c.behind_line-rest.ensures.value c.behind_line-rest.ensures.less
    c.class_of-class.ensures c.opening-piece.ensures c.content-self-inside.ensures.value c.content-self-inside.ensures.within c.opened-self-inside.ensures.value

pub invariant_of-self : goal.invariant_of-self
invariant_of-self c =
    let h = line_behind c.self.inside.after.now c.behind_line-rest.result.now c.line_size.result c.behind_line-rest.ensures.value c.line_size.ensures.value in
    search rules
