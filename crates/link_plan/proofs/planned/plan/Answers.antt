use Rattle.std.proofs.Common.{List, ap, ◌∙◌}
use Rattle.std.proofs.lemmas.Result.{err_from_is_err_and}
use Rattle.link_uses.specs.Uses.{Taken}
use Rattle.link_plan.specs.Lists.{lists_of, needs_of}
use Rattle.link_plan.proofs.Plans.{handed, plan_ends, plan_done}
use Rattle.link_plan.proofs.planned.plan.Goals as goal

pub returns-in_err-taken : goal.returns-in_err-taken
returns-in_err-taken g c =
    handed c.from_residual.result c.in_err-taken.field-0.0 _
    (err_from_is_err_and c.from_residual.result c.from_residual.ensures.1)
    (plan_ends g.M.Machine.rules c.args.options.now c.args.objects.now c.args.names.now
    c.uses_are_kept_beside_needs.ensures.plan c.in_err-taken.field-0.0 c.in_err-taken.ensures)

pub returns : goal.returns
returns g c =
    plan_done g.M.Machine.rules c.args.options.now c.args.objects.now c.args.names.now
    c.uses_are_kept_beside_needs.ensures.plan c.in_ok-taken.taken.items c.in_ok-lists.lists
    c.in_ok-plan_with.field-0 c.in_ok-taken.ensures
    (c.in_ok-lists.ensures ∙ ap (λ (ts : List Taken). lists_of (needs_of ts)) c.as_slice.ensures.value)
    c.in_ok-plan_with.ensures
