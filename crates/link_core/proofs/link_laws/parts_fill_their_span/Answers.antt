use Rattle.link_core.proofs.LaidOut.{parts_fill, parts_follow}
use Rattle.link_core.proofs.link_laws.parts_fill_their_span.Goals as goal

pub returns : goal.returns
returns c = record { filled = parts_fill; follow = parts_follow }
