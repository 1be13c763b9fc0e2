use Rattle.std.proofs.Common.{arith}
use Rattle.link_placed.specs.Made.{link_of}
use Rattle.link_sections.proofs.Named.{number_low}
use Rattle.link_sections.proofs.rows.number_of.Goals as goal

pub overflow_add-result : goal.overflow_add-result
overflow_add-result g c =
    let low = number_low (link_of g.M.Machine.rules c.args.p.now) c.args.p.now.layout _ _ c.is_made.ensures c.position.ensures in
    omega (arith, low)

pub overflow_cast-result : goal.overflow_cast-result
overflow_cast-result g c =
    let low = number_low (link_of g.M.Machine.rules c.args.p.now) c.args.p.now.layout _ _ c.is_made.ensures c.position.ensures in
    omega (arith, low)
