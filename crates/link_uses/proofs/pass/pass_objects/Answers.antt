use Rattle.std.proofs.Common.{ap}
use Rattle.std.proofs.lemmas.Result.{err_from_is_err_and}
use Rattle.link_uses.proofs.Passes.{seen_on, objects_end}
use Rattle.link_uses.proofs.pass.pass_objects.Goals as goal

pub returns-in_err-pass_object : goal.returns-in_err-pass_object
returns-in_err-pass_object g c =
    let r = c.from_residual-in_err-pass_object in
    seen_on r.result c.in_err-pass_object.field-0.0 _ (err_from_is_err_and r.result r.ensures.1)
    (objects_end g.M.Machine.rules c.args.given.now c.loop-i.list.items c.loop-i.i c.given.inside.objects.now
    c.index-given-i.result _ c.in_err-pass_object.field-0.0 (ap (λ q. q.objects) c.given.view_is)
    c.loop-i-test.true c.in_err-pass_object.ensures c.loop-i.invariant)
