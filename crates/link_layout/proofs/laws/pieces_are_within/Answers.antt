use Rattle.link_layout.proofs.Greatest.{threads_align}
use Rattle.link_layout.proofs.Standing.{commons_within, ends_within, pieces_within}
use Rattle.link_layout.proofs.laws.pieces_are_within.Goals as goal

pub returns : goal.returns
returns c = record { pieces = pieces_within; commons = commons_within; ends = ends_within; align = threads_align }
