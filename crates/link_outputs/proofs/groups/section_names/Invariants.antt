use Rattle.std.proofs.Common.{◌≡◌, map, take}
use Rattle.link_outputs.proofs.groups.section_names.Given as goal

abbrev pub invariant-loop-group : goal.invariant-loop-group
invariant-loop-group l = map (λ n. n.now) l.names.items ≡ map (λ g. g.output.name) (take l.group-index l.groups)
