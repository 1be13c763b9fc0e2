use Rattle.ifs_edit.proofs.Alone.{merges_alone}
use Rattle.ifs_edit.proofs.laws.merges_alone.Goals as goal

pub returns : goal.returns
returns c = merges_alone
