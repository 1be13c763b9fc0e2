use Rattle.std.proofs.Common.{sym, ◌∙◌}
use Rattle.yaml_nodes.proofs.Parts.{last_with}
use Rattle.yaml_nodes.proofs.document.whole_document.Goals as goal

pub returns-in_ok-tag_text-in-Some : goal.returns-in_ok-tag_text-in-Some
returns-in_ok-tag_text-in-Some c = λ at.
    last_with at c.args.tag c.in_ok-tag_text-in-Some.field-0 c.args.tokens c.in-Some.root c.in_ok-tag_text-in-Some.ensures (sym c.in-Some.is ∙ c.in_ok-root.ensures)
