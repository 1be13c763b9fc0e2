use Rattle.std.proofs.Common.{arith}
use Rattle.link_placed.specs.Made.{link_of}
use Rattle.link_segments.proofs.Ends.{page_low}
use Rattle.link_segments.proofs.starts.page.Goals as goal

pub returns-clause-low : goal.returns-clause-low
returns-clause-low g c =
    let low = page_low (link_of g.M.Machine.rules c.args.p.now) c.args.p.now.layout c.is_made.ensures in
    omega (arith, low, c.page.ensures)
