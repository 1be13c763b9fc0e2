use Rattle.link_order.proofs.Runs.{sections_runs}
use Rattle.link_order.proofs.laws.sections_are_runs.Goals as goal

pub returns : goal.returns
returns c = sections_runs
