use Rattle.std.proofs.Common.{◌≡◌, ◌<◌, ◌^◌, drop}
use Rattle.link_core.specs.Aligned.{end_from}
use Rattle.link_tables.specs.Capped.{capped}
use Rattle.link_tables.proofs.places.ends_at.Given as goal

abbrev pub invariant-loop-section : goal.invariant-loop-section
invariant-loop-section l = record {
  ends :
      capped (end_from (λ s. s.align) (λ s. s.size) l.end (drop l.section-index l.sections))
      ≡ capped (end_from (λ s. s.align) (λ s. s.size) l.fn.at l.sections);
  bounded : l.end < 2 ^ 128;
}
