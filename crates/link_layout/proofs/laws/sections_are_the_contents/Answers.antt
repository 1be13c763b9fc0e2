use Rattle.link_layout.proofs.Within.{sections_the_contents}
use Rattle.link_layout.proofs.laws.sections_are_the_contents.Goals as goal

pub returns : goal.returns
returns c = sections_the_contents
