use Rattle.link_core.proofs.LinksSeeFacts.{links_see_facts}
use Rattle.link_core.proofs.link_laws.links_see_facts.Goals as goal

pub returns : goal.returns
returns c = links_see_facts
