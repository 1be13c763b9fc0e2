use Rattle.link_placed.proofs.Bounds.{entries_few}
use Rattle.link_placed.specs.Made.{link_of}
use Rattle.link_placed.proofs.link.Link.has_few_entries.Goals as goal

pub returns : goal.returns
returns g c = entries_few (link_of g.M.Machine.rules c.args.self.now) c.args.self.now.layout c.is_made.ensures
