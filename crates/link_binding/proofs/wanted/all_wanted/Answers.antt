use Rattle.link_binding.specs.Libraries.{seen}
use Rattle.link_binding.specs.WantedNames.{has_name, wants}
use Rattle.link_binding.proofs.Wanting.{any_turn, any_done}
use Rattle.link_binding.proofs.wanted.all_wanted.Goals as goal

pub loop-held-preserved : goal.loop-held-preserved
loop-held-preserved g c = λ name. any_turn (wants name) (seen g.S.SharedLib.facts) c.args.libs.now c.loop-held.held-index c.held-item.result (has_name name c.loop-held.wanted.items) _ _ c.loop-held-test.true c.held-item.is (c.in_ok-push_wanted.ensures name) (c.loop-held.invariant name)

pub returns : goal.returns
returns g c = λ name. any_done (wants name) (seen g.S.SharedLib.facts) c.args.libs.now c.loop-held.held-index (has_name name c.loop-held.wanted.items) _ c.loop-held-test.false (c.loop-held.invariant name)
