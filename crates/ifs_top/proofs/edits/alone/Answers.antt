use Rattle.ifs_edit.proofs.Alone.{merges_alone}
use Rattle.ifs_top.proofs.edits.alone.Goals as goal

pub returns-clause-merged : goal.returns-clause-merged
returns-clause-merged c = merges_alone c.args.interface c.symbols-own.ensures.interface
