use Rattle.std.proofs.Common.{Err, subst, ◌∙◌}
use Rattle.ifs_bytes.specs.Outcome.{UnlessMemory}
use Rattle.link_core.specs.declared.refusal.LinkStop.TheVariants as stops
use Rattle.link_binding.specs.Libraries.{libraries_seen}
use Rattle.link_names.specs.Named.{stopped_by}
use Rattle.link_resolve.specs.Names.{names_by, refused_by}
use Rattle.link_resolve.proofs.Listed.{refused_rows}
use Rattle.link_resolve.proofs.names.rows_in.Goals as goal

pub returns : goal.returns
returns g c =
    let libraries = libraries_seen g.S.SharedLib.facts c.args.libs.now in
    let names = names_by c.args.options.now libraries c.args.sections.now c.args.runs.now in
    refused_rows (refused_by c.args.options.now libraries c.args.sections.now c.args.runs.now names) names c.in-Err.stop
    (subst (λ held. UnlessMemory stops.Memory (Err c.in-Err.stop) (stopped_by (refused_by c.args.options.now libraries c.args.sections.now c.args.runs.now held)))
    (c.deref-2.ensures.value ∙ c.in_ok-names.ensures)
    (subst (λ r. UnlessMemory stops.Memory r (stopped_by (refused_by c.args.options.now libraries c.args.sections.now c.args.runs.now c.deref-2.result.now)))
    c.in-Err.is c.check_names.ensures))
