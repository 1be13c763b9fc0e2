use Rattle.ifs_edit.proofs.Reordered.{merges_again}
use Rattle.ifs_edit.proofs.laws.merges_in_any_order.Goals as goal

pub returns : goal.returns
returns c = merges_again
