use Rattle.std.proofs.Common.{subst, Result, List}
use Rattle.ifs_bytes.specs.Outcome.{UnlessMemory}
use Rattle.link_core.specs.declared.refusal.LinkRefusal.{LinkRefusal}
use Rattle.link_core.specs.declared.refusal.LinkStop.TheVariants as stops
use Rattle.link_needs.specs.Needs.{stopped}
use Rattle.link_uses.specs.Uses.{Taken, seen}
use Rattle.link_uses.proofs.Whole.{taken_is}
use Rattle.link_uses.proofs.taken.taken_uses.Goals as goal

pub returns : goal.returns
returns g c =
    subst (λ (r : Result (List Taken) LinkRefusal). UnlessMemory stops.Memory (seen c.pass_objects.result)
    (stopped r))
    (taken_is g.M.Machine.rules
    (record { options = c.args.options.now; names = c.args.names.now; objects = c.args.objects.now }))
    c.pass_objects.ensures
