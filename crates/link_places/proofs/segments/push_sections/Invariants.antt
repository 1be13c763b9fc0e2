use Rattle.std.proofs.Common.{◌≡◌, ◌++◌, drop}
use Rattle.link_places.specs.Segments.{sections_in}
use Rattle.link_places.proofs.segments.push_sections.Given as goal

abbrev pub invariant-loop-output : goal.invariant-loop-output
invariant-loop-output l =
    l.sections.items ++ sections_in l.class (drop l.output-index l.outputs)
    ≡ l.fn.sections.items ++ sections_in l.class l.outputs
