use Rattle.std.proofs.Common.{◌≡◌, []}
use Rattle.link_uses.specs.Passes.{goes_from}
use Rattle.link_uses.proofs.pass.pass_objects.Given as goal

abbrev pub invariant-loop-i : goal.invariant-loop-i
invariant-loop-i g l =
    goes_from g.M.Machine.rules l.given l.list.items l.i ≡ goes_from g.M.Machine.rules l.given [] 0
