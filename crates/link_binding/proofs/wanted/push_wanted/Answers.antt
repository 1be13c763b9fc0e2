use Rattle.std.proofs.Common.{◌<◌, ◌≤◌, length, map, option_map, arith}
use Rattle.ifs_interface.specs.Wanted.{seen}
use Rattle.link_binding.proofs.Wanting.{place_more, place_end, wanted_more}
use Rattle.link_binding.proofs.wanted.push_wanted.Goals as goal

pub loop-i-preserved : goal.loop-i-preserved
loop-i-preserved g c =
    let places = g.S.SharedLib.wanted_list c.args.lib.now in
    let within : c.loop-i.i < length places = omega (arith, c.wanted_len-i-end.ensures.places) in
    place_more places c.loop-i.i (option_map seen c.wanted.result) (map seen c.loop-i.wanted.items) _ _ within c.wanted.ensures c.in_ok-push_some.ensures c.loop-i.invariant

pub returns : goal.returns
returns g c =
    let places = g.S.SharedLib.wanted_list c.args.lib.now in
    let past : length places ≤ c.loop-i.i = omega (arith, c.wanted_len-i-end.ensures.places) in
    λ name. wanted_more (g.S.SharedLib.facts c.args.lib.now) places c.args.wanted.now.items c.loop-i.wanted.items name c.wanted_len-i-end.ensures.wanted (place_end places c.loop-i.i (map seen c.loop-i.wanted.items) _ past c.loop-i.invariant)
