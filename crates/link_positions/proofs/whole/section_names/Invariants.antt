use Rattle.std.proofs.Common.{◌≡◌, ◌+◌, ◌<◌, ◌^◌, drop}
use Rattle.link_tables.specs.Capped.{capped}
use Rattle.link_positions.specs.Whole.{section_names}
use Rattle.link_positions.proofs.whole.section_names.Given as goal

abbrev pub invariant-loop-section : goal.invariant-loop-section
invariant-loop-section l = record {
  counted : capped (l.total + section_names (drop l.section-index l.sections)) ≡ capped (section_names l.sections);
  bounded : l.total < 2 ^ 128;
}
