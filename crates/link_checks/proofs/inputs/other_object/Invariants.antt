use Rattle.std.proofs.Common.{◌≡◌, drop}
use Rattle.link_core.specs.Resolution as resolution
use Rattle.link_checks.proofs.Firsts.{first_from}
use Rattle.link_checks.proofs.inputs.other_object.Given as goal

abbrev pub invariant-loop-i : goal.invariant-loop-i
invariant-loop-i l =
    first_from (resolution.other_object l.machine) l.i (drop l.i l.objects) ≡ first_from (resolution.other_object l.machine) 0 l.objects
