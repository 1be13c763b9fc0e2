use Rattle.link_binding.specs.Libraries.{seen}
use Rattle.link_checks.proofs.Listed.{needed_more, needed_end, needed_start}
use Rattle.link_checks.proofs.needed.needed_names.Goals as goal

pub loop-i-init : goal.loop-i-init
loop-i-init g c = needed_start (seen g.S.SharedLib.facts) c.args.options.now c.args.rows.now c.args.libs.now c.new-needed.result.items c.new-needed.ensures.items

pub loop-i-preserved : goal.loop-i-preserved
loop-i-preserved g c =
    needed_more (seen g.S.SharedLib.facts) c.args.options.now c.args.rows.now c.args.libs.now c.loop-i.i c.index-libs-i.result c.loop-i.needed.items _ _ c.loop-i-test.true c.index-libs-i.is c.in_ok-push_asked.ensures c.loop-i.invariant

pub returns : goal.returns
returns g c =
    needed_end (seen g.S.SharedLib.facts) c.args.options.now c.args.rows.now c.args.libs.now c.loop-i.i c.loop-i.needed.items _ c.loop-i-test.false c.loop-i.invariant
