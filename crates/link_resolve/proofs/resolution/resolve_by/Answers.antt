use Rattle.std.proofs.Common.{Err, Ok, ap, subst, ◌∙◌}
use Rattle.ifs_bytes.specs.Outcome.{UnlessMemory}
use Rattle.link_core.specs.declared.refusal.LinkStop.TheVariants as stops
use Rattle.link_core.specs.Mentions.{mentions_of}
use Rattle.link_core.specs.OutputNames.{kept_pieces}
use Rattle.link_binding.specs.Libraries.{libraries_seen}
use Rattle.link_mentions.specs.ByName.{by_name}
use Rattle.link_outputs.specs.Grouped.{AreNamesOf, grouped}
use Rattle.link_resolve.specs.Names.{rows_in, scope_by}
use Rattle.link_resolve.proofs.Joined.{provided_same, with_err, with_ok}
use Rattle.link_resolve.proofs.resolution.resolve_by.Goals as goal

pub returns-in-Ok : goal.returns-in-Ok
returns-in-Ok g c =
    let libraries = libraries_seen g.S.SharedLib.facts c.args.libs.now in
    let scope = scope_by c.args.dropped.items c.args.options.now c.args.objects.now libraries in
    let mentions = c.in_ok-mentions.ensures ∙ ap (λ dropped. mentions_of dropped c.args.objects.now) c.deref.ensures.value in
    let names : AreNamesOf (grouped (kept_pieces c.args.dropped.items c.args.objects.now)) c.in_ok-sections.sections.items =
    subst (λ dropped. AreNamesOf (grouped (kept_pieces dropped c.args.objects.now)) c.in_ok-sections.sections.items) c.deref-2.ensures.value c.in_ok-sections.ensures in
    with_ok scope c.in_ok-sections.sections.items (provided_same (kept_pieces c.args.dropped.items c.args.objects.now) c.in_ok-sections.sections.items names)
    c.args.dropped.items c.in-Ok.names.items c.resolved.result
    (subst (λ ms. UnlessMemory stops.Memory (Ok c.in-Ok.names.items) (rows_in c.args.options.now libraries c.in_ok-sections.sections.items (by_name ms))) mentions
    (subst (λ ss. UnlessMemory stops.Memory (Ok c.in-Ok.names.items) (rows_in c.args.options.now libraries ss (by_name c.in_ok-mentions.mentions.items))) c.deref-3.ensures.value c.in-Ok.ensures)) c.resolved.ensures

pub returns-in-Err : goal.returns-in-Err
returns-in-Err g c =
    let libraries = libraries_seen g.S.SharedLib.facts c.args.libs.now in
    let scope = scope_by c.args.dropped.items c.args.options.now c.args.objects.now libraries in
    let mentions = c.in_ok-mentions.ensures ∙ ap (λ dropped. mentions_of dropped c.args.objects.now) c.deref.ensures.value in
    let names : AreNamesOf (grouped (kept_pieces c.args.dropped.items c.args.objects.now)) c.in_ok-sections.sections.items =
    subst (λ dropped. AreNamesOf (grouped (kept_pieces dropped c.args.objects.now)) c.in_ok-sections.sections.items) c.deref-2.ensures.value c.in_ok-sections.ensures in
    with_err scope c.in_ok-sections.sections.items (provided_same (kept_pieces c.args.dropped.items c.args.objects.now) c.in_ok-sections.sections.items names)
    c.args.dropped.items c.in-Err.stop
    (subst (λ ms. UnlessMemory stops.Memory (Err c.in-Err.stop) (rows_in c.args.options.now libraries c.in_ok-sections.sections.items (by_name ms))) mentions
    (subst (λ ss. UnlessMemory stops.Memory (Err c.in-Err.stop) (rows_in c.args.options.now libraries ss (by_name c.in_ok-mentions.mentions.items))) c.deref-3.ensures.value c.in-Err.ensures))
