use Rattle.link_core.specs.Binding.{binding_of}
use Rattle.link_binding.specs.Libraries.{libraries_seen}
use Rattle.link_binding.proofs.Spoken.{row_made}
use Rattle.link_binding.proofs.row.row_of.Goals as goal

pub returns : goal.returns
returns g c =
    let libraries = libraries_seen g.S.SharedLib.facts c.args.libs.now in
    row_made c.args.options.now libraries c.args.name.now (binding_of (λ _. c.args.provided) libraries c.args.name.now c.args.mentions.now) c.args.mentions.now
    c.in_ok-from_slice.field-0 c.bind_name-bind.result c.are_weak.result c.strictest-visibility.result c.is_offered-offered.result c.is_exported-exported.result c.is_preemptible-preemptible.result
    c.in_ok-from_slice.ensures c.bind_name-bind.ensures c.are_weak.ensures c.strictest-visibility.ensures c.is_offered-offered.ensures c.is_exported-exported.ensures c.is_preemptible-preemptible.ensures
