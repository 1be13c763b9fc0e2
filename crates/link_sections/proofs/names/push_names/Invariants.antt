use Rattle.std.proofs.Common.{◌≡◌, ◌++◌, map, take}
use Rattle.link_strings.specs.Named.{strings_of}
use Rattle.link_sections.proofs.names.push_names.Given as goal

abbrev pub invariant-loop-section : goal.invariant-loop-section
invariant-loop-section l =
    strings_of l.all.items ≡ strings_of l.fn.all.items ++ map (λ s. s.name) (take l.section-index l.sections)
