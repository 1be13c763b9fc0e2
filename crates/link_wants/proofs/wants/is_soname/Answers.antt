use Rattle.std.proofs.Common.{false}
use Rattle.std.specs.Option.{option_map_or}
use Rattle.ifs_interface.specs.Triple.{same_name}
use Rattle.link_core.specs.Side.{Library}
use Rattle.link_binding.specs.Libraries.{seen}
use Rattle.link_binding.proofs.Libraries.{any_found, any_missing}
use Rattle.link_wants.proofs.wants.is_soname.Goals as goal

pub returns-then-has_soname : goal.returns-then-has_soname
returns-then-has_soname g c =
    any_found (λ (l : Library). option_map_or (same_name c.args.name.now) l.facts.soname false) (seen g.S.SharedLib.facts) c.args.libs.now c.loop-held.held-index c.held-item.result c.loop-held-test.true c.held-item.is (cc) c.loop-held.invariant

pub returns : goal.returns
returns g c =
    any_missing (λ (l : Library). option_map_or (same_name c.args.name.now) l.facts.soname false) (seen g.S.SharedLib.facts) c.args.libs.now c.loop-held.held-index c.loop-held-test.false c.loop-held.invariant
