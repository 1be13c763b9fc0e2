use Rattle.link_core.specs.Side.{held_by}
use Rattle.link_binding.specs.Libraries.{libraries_seen, side_of}
use Rattle.link_binding.proofs.Libraries.{filter_map_done}
use Rattle.link_binding.proofs.library.held_libs.Goals as goal

pub returns : goal.returns
returns g c =
    filter_map_done held_by (side_of g.S.SharedLib.facts) c.args.libs.now c.loop-lib.lib-index (libraries_seen g.S.SharedLib.facts c.loop-lib.held.items) c.loop-lib-test.false c.loop-lib.invariant
