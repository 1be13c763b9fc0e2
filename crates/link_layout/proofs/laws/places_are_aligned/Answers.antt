use Rattle.link_layout.proofs.InOrder.{places_aligned}
use Rattle.link_layout.proofs.laws.places_are_aligned.Goals as goal

pub returns : goal.returns
returns c = places_aligned
