use Rattle.link_core.proofs.Slots.{plans_distinct}
use Rattle.link_core.proofs.laws.slots_are_distinct.Goals as goal

pub returns : goal.returns
returns c = plans_distinct
