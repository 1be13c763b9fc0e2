use Rattle.std.proofs.Common.{sym, ◌∙◌}
use Rattle.yaml_tokens.proofs.Parts.{parted_more}
use Rattle.yaml_tokens.proofs.token.Tokens.split.Goals as goal

pub returns-else-is_beyond : goal.returns-else-is_beyond
returns-else-is_beyond c =
    parted_more c.self.inside.bounded c.in-Some.token c.copy-cutter.result c.self.inside.cutter c.next_token.new.cutter c.args.self.now c.copy-cutter.ensures c.in-Some.ensures
    (sym c.is_beyond.ensures ∙ c.if-is_beyond.false) c.self.view_is
