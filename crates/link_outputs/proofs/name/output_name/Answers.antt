use Rattle.std.proofs.Common.{ap, unwrap_or}
use Rattle.link_core.specs.OutputNames.{output_name, joined_names}
use Rattle.link_outputs.proofs.name.output_name.Goals as goal

pub returns-in-Some : goal.returns-in-Some
unfolding output_name joined_names
returns-in-Some c = ap (λ o. unwrap_or o c.args.name.now) c.in-Some.ensures

pub returns-in-None : goal.returns-in-None
unfolding output_name joined_names
returns-in-None c = ap (λ o. unwrap_or o c.args.name.now) c.in-None.ensures
