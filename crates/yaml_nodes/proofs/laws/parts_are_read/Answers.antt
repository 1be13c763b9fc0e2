use Rattle.yaml_nodes.proofs.DocumentsAgree.{parts_read}
use Rattle.yaml_nodes.proofs.laws.parts_are_read.Goals as goal

pub returns : goal.returns
returns c = parts_read
