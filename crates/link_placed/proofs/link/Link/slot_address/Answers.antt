use Rattle.link_placed.proofs.Bounds.{slot_is}
use Rattle.link_placed.specs.Made.{link_of}
use Rattle.link_placed.proofs.link.Link.slot_address.Goals as goal

pub returns-clause-is : goal.returns-clause-is
returns-clause-is g c =
    slot_is (link_of g.M.Machine.rules c.args.self.now) c.args.self.now.layout c.args.slot c.address.result c.words_before.result c.address.ensures.is c.words_before.ensures.is
