use Rattle.std.proofs.Common.{◌≡◌, ◌+◌, ◌-◌, ◌<◌, length, option_map, drop, ap, ◌∙◌, arith}
use Rattle.std.specs.Option.{option_copied}
use Rattle.ifs_interface.specs.Wanted.{seen}
use Rattle.link_binding.specs.Libraries.{libraries_seen}
use Rattle.link_wants.specs.Least.{is_missing_by, least_from}
use Rattle.link_wants.proofs.Leasts.{least_is, least_more, least_start}
use Rattle.link_wants.proofs.least.least_missing.Goals as goal

pub loop-i-init : goal.loop-i-init
loop-i-init g c =
    let missing = is_missing_by c.args.names.now (libraries_seen g.S.SharedLib.facts c.args.libs.now) c.args.sections.now in
    record {
      within = omega (arith, c.wanted_len-i.ensures.places);
      value = least_start missing (g.S.SharedLib.wanted_list c.args.lib.now) c.wanted_len-i.result c.wanted_len-i.ensures.places;
    }

pub loop-i-preserved : goal.loop-i-preserved
loop-i-preserved g c =
    let missing = is_missing_by c.args.names.now (libraries_seen g.S.SharedLib.facts c.args.libs.now) c.args.sections.now in
    let places = g.S.SharedLib.wanted_list c.args.lib.now in
    let i = c.loop-i.i in
    let within : i - 1 < length places = omega (arith, c.loop-i.invariant.within, c.loop-i-test.true) in
    let next : i ≡ i - 1 + 1 = omega (arith, c.loop-i-test.true) in
    record {
      within = omega (arith, c.loop-i.invariant.within);
      value = c.lesser-least.ensures ∙ least_more missing places (i - 1) i (option_map seen c.wanted.result) (option_copied c.missing_at.result) (option_copied c.loop-i.least) within next c.wanted.ensures c.missing_at.ensures c.loop-i.invariant.value;
    }

pub returns : goal.returns
returns g c =
    let missing = is_missing_by c.args.names.now (libraries_seen g.S.SharedLib.facts c.args.libs.now) c.args.sections.now in
    let places = g.S.SharedLib.wanted_list c.args.lib.now in
    let none : c.loop-i.i ≡ 0 = omega (arith, c.loop-i-test.false) in
    c.loop-i.invariant.value ∙ ap (λ i. least_from missing (drop i places)) none
    ∙ least_is missing (g.S.SharedLib.facts c.args.lib.now) places c.wanted_len-i.ensures.wanted c.wanted_len-i.ensures.order
