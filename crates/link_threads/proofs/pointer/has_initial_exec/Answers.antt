use Rattle.std.proofs.Common.{◌∙◌, ap}
use Rattle.link_pieces.specs.Flags.{rows}
use Rattle.link_threads.proofs.Kept.{any_is}
use Rattle.link_threads.proofs.pointer.has_initial_exec.Goals as goal

pub returns : goal.returns
returns g c =
    c.is_in_any.ensures
    ∙ any_is g.M.Machine.rules c.args.dropped.now c.args.objects.now (rows c.deref.result.now) (ap (λ fs. rows fs) c.deref.ensures.value ∙ c.in_ok-all.ensures)
