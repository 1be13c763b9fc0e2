use Rattle.link_core.proofs.Names.{names_ascend, names_once}
use Rattle.link_core.proofs.Files.{files_say_nothing}
use Rattle.link_core.proofs.laws.names_are_bound_once.Goals as goal

pub returns : goal.returns
returns c = record { ascend = names_ascend; once = names_once; files = files_say_nothing }
