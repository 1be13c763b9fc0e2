use Rattle.std.proofs.Common.{◌≡◌, drop}
use Rattle.link_checks.specs.Inputs.{versioned_at}
use Rattle.link_checks.proofs.Firsts.{first_from}
use Rattle.link_checks.proofs.inputs.first_versioned.Given as goal

abbrev pub invariant-loop-i : goal.invariant-loop-i
invariant-loop-i g l = first_from versioned_at l.i (drop l.i l.libs) ≡ first_from versioned_at 0 l.libs
