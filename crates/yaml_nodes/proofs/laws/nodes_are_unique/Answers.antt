use Rattle.yaml_nodes.proofs.DocumentsAgree.{flow_unique, block_unique, root_unique}
use Rattle.yaml_nodes.proofs.laws.nodes_are_unique.Goals as goal

pub returns : goal.returns
returns c = record { flow = flow_unique; lines = block_unique; root = root_unique }
