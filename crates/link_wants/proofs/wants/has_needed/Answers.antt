use Rattle.std.proofs.Common.{◌<◌, ◌≤◌, length, sym, ◌∙◌, arith}
use Rattle.std.specs.Option.{option_copied}
use Rattle.link_core.specs.Resolution.{is_soname}
use Rattle.link_binding.specs.Libraries.{libraries_seen}
use Rattle.link_wants.proofs.Sonames.{all_end, all_fails, all_passes}
use Rattle.link_wants.proofs.wants.has_needed.Goals as goal

pub returns-then-not-is_given : goal.returns-then-not-is_given
returns-then-not-is_given g c =
    let needed = (g.S.SharedLib.facts c.args.lib.now).needed in
    let within : c.loop-i.i < length needed = omega (arith, c.needed_len-i-end.ensures) in
    all_fails (is_soname (libraries_seen g.S.SharedLib.facts c.args.libs.now)) needed c.loop-i.i (option_copied c.needed.result) within c.needed.ensures (sym c.is_given.ensures ∙ c.if-not-is_given.true) c.loop-i.invariant

pub loop-i-preserved : goal.loop-i-preserved
loop-i-preserved g c =
    let needed = (g.S.SharedLib.facts c.args.lib.now).needed in
    let within : c.loop-i.i < length needed = omega (arith, c.needed_len-i-end.ensures) in
    all_passes (is_soname (libraries_seen g.S.SharedLib.facts c.args.libs.now)) needed c.loop-i.i (option_copied c.needed.result) within c.needed.ensures (sym c.is_given.ensures ∙ c.if-not-is_given.false) c.loop-i.invariant

pub returns : goal.returns
returns g c =
    let needed = (g.S.SharedLib.facts c.args.lib.now).needed in
    let past : length needed ≤ c.loop-i.i = omega (arith, c.needed_len-i-end.ensures) in
    all_end (is_soname (libraries_seen g.S.SharedLib.facts c.args.libs.now)) needed c.loop-i.i past c.loop-i.invariant
