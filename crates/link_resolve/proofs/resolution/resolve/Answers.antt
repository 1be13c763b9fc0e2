use Rattle.std.proofs.Common.{ap, subst, sym, ◌∙◌, inr, map}
use Rattle.ifs_bytes.specs.Outcome.{UnlessMemory}
use Rattle.link_core.specs.declared.refusal.LinkStop.TheVariants as stops
use Rattle.link_core.specs.Resolution.{resolution_of, scope_of, versioned_side}
use Rattle.link_core.specs.Side.{libraries_of}
use Rattle.link_binding.specs.Libraries.{libraries_seen, side_of}
use Rattle.link_resolve.specs.Names.{resolution_with, stopped}
use Rattle.link_resolve.proofs.Joined.{held_few, passes, refuses}
use Rattle.link_resolve.proofs.resolution.resolve.Goals as goal

pub resolve_held-requires-clause-limit : goal.resolve_held-requires-clause-limit
resolve_held-requires-clause-limit g c =
    held_few g.S.SharedLib.facts c.args.libs.now _ (ap (libraries_seen g.S.SharedLib.facts) c.deref.ensures.value ∙ c.in_ok-held-in-Ok.ensures) c.requires.limit

pub returns-in_ok-held-in-Ok : goal.returns-in_ok-held-in-Ok
unfolding resolution_of scope_of
returns-in_ok-held-in-Ok g c =
    let held = ap (libraries_seen g.S.SharedLib.facts) c.deref.ensures.value ∙ c.in_ok-held-in-Ok.ensures in
    let next = resolution_with c.args.options.now c.args.objects.now (libraries_of (map (side_of g.S.SharedLib.facts) c.args.libs.now)) in
    subst (λ meant. UnlessMemory stops.Memory c.resolve_held.result meant)
    (ap (λ libraries. stopped (resolution_with c.args.options.now c.args.objects.now libraries)) held
    ∙ passes (versioned_side (map (side_of g.S.SharedLib.facts) c.args.libs.now)) next _ (sym c.in-Ok.is ∙ c.check_versions.ensures))
    c.resolve_held.ensures

pub returns-in-Err : goal.returns-in-Err
unfolding resolution_of scope_of
returns-in-Err g c =
    let next = resolution_with c.args.options.now c.args.objects.now (libraries_of (map (side_of g.S.SharedLib.facts) c.args.libs.now)) in
    inr (refuses (versioned_side (map (side_of g.S.SharedLib.facts) c.args.libs.now)) next c.in-Err.stop (sym c.in-Err.is ∙ c.check_versions.ensures))
