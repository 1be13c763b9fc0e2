use Rattle.std.proofs.Common.{◌≡◌, map, take}
use Rattle.elf_object.specs.Sections.{is_loadable}
use Rattle.link_pieces.proofs.flags.loadable_of.Given as goal

abbrev pub invariant-loop-section : goal.invariant-loop-section
invariant-loop-section l = l.flags.items ≡ map is_loadable (take l.section-index l.sections)
