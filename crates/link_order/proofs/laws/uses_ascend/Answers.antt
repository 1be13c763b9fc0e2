use Rattle.link_order.proofs.InLink.{uses_in_order}
use Rattle.link_order.proofs.laws.uses_ascend.Goals as goal

pub returns : goal.returns
returns c = uses_in_order
