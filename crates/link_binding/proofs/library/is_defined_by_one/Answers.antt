use Rattle.std.proofs.Common.{is_some}
use Rattle.link_core.specs.Side.{Library}
use Rattle.link_binding.specs.Libraries.{seen}
use Rattle.link_binding.proofs.Libraries.{any_found, any_missing}
use Rattle.link_binding.proofs.library.is_defined_by_one.Goals as goal

pub returns-then-is_some : goal.returns-then-is_some
returns-then-is_some g c =
    any_found (λ (l : Library). is_some (l.facts.fact_of c.args.name.now)) (seen g.S.SharedLib.facts) c.args.libs.now c.loop-held.held-index c.held-item.result c.loop-held-test.true c.held-item.is (cc) c.loop-held.invariant

pub returns : goal.returns
returns g c =
    any_missing (λ (l : Library). is_some (l.facts.fact_of c.args.name.now)) (seen g.S.SharedLib.facts) c.args.libs.now c.loop-held.held-index c.loop-held-test.false c.loop-held.invariant
