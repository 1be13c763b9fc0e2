use Rattle.link_layout.proofs.InOrder.{places_in_order}
use Rattle.link_layout.proofs.laws.places_ascend.Goals as goal

pub returns : goal.returns
returns c = places_in_order
