use Rattle.link_order.proofs.InObject.{references_in_order}
use Rattle.link_order.proofs.laws.references_ascend.Goals as goal

pub returns : goal.returns
returns c = references_in_order
