use Rattle.link_layout.proofs.Tables.{tables_sized}
use Rattle.link_layout.proofs.laws.tables_have_their_size.Goals as goal

pub returns : goal.returns
returns c = tables_sized
