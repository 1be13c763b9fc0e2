use Rattle.std.specs.Prelude.{map}
use Rattle.std.proofs.lemmas.Result.{err_from_is_err_and}
use Rattle.link_binding.specs.Libraries.{side_of}
use Rattle.link_core.specs.Link.{sides_checked}
use Rattle.link_libs.proofs.Checked.{check_done, check_ends, handed}
use Rattle.link_libs.proofs.sides.check_sides.Goals as goal

pub returns-in_err-check_side : goal.returns-in_err-check_side
returns-in_err-check_side g c =
    let r = c.from_residual in
    let stop = c.in_err-check_side.field-0.0 in
    let facts = g.S.SharedLib.facts in
    handed r.result stop (sides_checked (map (side_of facts) c.args.libs.now))
    (err_from_is_err_and r.result r.ensures.1)
    (check_ends facts c.args.libs.now c.loop-i.i c.index-libs-i.result stop c.loop-i-test.true
    c.index-libs-i.is c.in_err-check_side.ensures c.loop-i.invariant)

pub returns : goal.returns
returns g c = check_done g.S.SharedLib.facts c.args.libs.now c.loop-i.i c.loop-i-test.false c.loop-i.invariant
