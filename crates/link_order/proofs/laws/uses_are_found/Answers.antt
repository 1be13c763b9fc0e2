use Rattle.link_order.proofs.Runs.{uses_found}
use Rattle.link_order.proofs.laws.uses_are_found.Goals as goal

pub returns : goal.returns
returns c = uses_found
