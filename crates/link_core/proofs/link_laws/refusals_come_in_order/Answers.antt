use Rattle.link_core.proofs.InOrder.{links_refuse_in_order}
use Rattle.link_core.proofs.link_laws.refusals_come_in_order.Goals as goal

pub returns : goal.returns
returns c = links_refuse_in_order
