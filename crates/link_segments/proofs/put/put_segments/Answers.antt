use Rattle.link_placed.specs.Made.{link_of}
use Rattle.link_segments.proofs.AllRows.{halves}
use Rattle.link_segments.proofs.put.put_segments.Goals as goal

pub returns : goal.returns
returns g c =
    halves (link_of g.M.Machine.rules c.args.p.now) c.args.p.now.layout c.put_back.result _ _ _ c.in_ok-put_front.ensures c.put_back.ensures
