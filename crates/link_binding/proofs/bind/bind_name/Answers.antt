use Rattle.std.proofs.Common.{sym, ◌∙◌}
use Rattle.link_core.specs.Binding.{among_libraries, among_objects, binding_of}
use Rattle.link_binding.specs.Libraries.{libraries_seen}
use Rattle.link_binding.proofs.Choice.{by_library}
use Rattle.link_binding.proofs.bind.bind_name.Goals as goal

pub returns-in-Some-library_bind : goal.returns-in-Some-library_bind
unfolding binding_of
returns-in-Some-library_bind g c =
    by_library c.args.mentions.now c.args.provided (among_objects c.args.mentions.now) (among_libraries (libraries_seen g.S.SharedLib.facts c.args.libs.now) c.args.name.now c.args.mentions.now) c.in-Some-library_bind.taken c.if-provided.false (sym c.in_default.is ∙ c.own_bind.ensures) (sym c.in-Some-library_bind.is ∙ c.library_bind.ensures)
