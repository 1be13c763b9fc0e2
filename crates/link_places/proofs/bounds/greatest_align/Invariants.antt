use Rattle.std.proofs.Common.{◌≡◌, drop, max}
use Rattle.std.specs.Prelude.{fold}
use Rattle.link_places.proofs.bounds.greatest_align.Given as goal

abbrev pub invariant-loop-section : goal.invariant-loop-section
invariant-loop-section l =
    fold (λ a x. max a x.align) l.greatest (drop l.section-index l.sections)
    ≡ fold (λ a x. max a x.align) 1 l.sections
