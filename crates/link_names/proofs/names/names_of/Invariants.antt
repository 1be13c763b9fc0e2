use Rattle.std.proofs.Common.{◌≡◌, map, take}
use Rattle.link_binding.specs.Libraries.{libraries_seen}
use Rattle.link_names.specs.Bounds.{is_provided_by}
use Rattle.link_names.specs.Named.{name_by}
use Rattle.link_names.proofs.names.names_of.Given as goal

abbrev pub invariant-loop-run : goal.invariant-loop-run
invariant-loop-run g l =
    l.names.items ≡ map (name_by l.options (libraries_seen g.S.SharedLib.facts l.libs) (is_provided_by l.sections)) (take l.run-index l.runs)
