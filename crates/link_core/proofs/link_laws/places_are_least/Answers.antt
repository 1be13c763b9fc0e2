use Rattle.link_core.proofs.Least.{places_are_least}
use Rattle.link_core.proofs.link_laws.places_are_least.Goals as goal

pub returns : goal.returns
returns c = places_are_least
