use Rattle.link_layout.proofs.Laid.{images_low}
use Rattle.link_layout.proofs.Within.{sections_within}
use Rattle.link_layout.proofs.laws.sections_are_within.Goals as goal

pub returns : goal.returns
returns c = record { within = sections_within; low = images_low }
