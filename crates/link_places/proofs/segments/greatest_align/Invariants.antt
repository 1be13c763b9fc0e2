use Rattle.std.proofs.Common.{◌≡◌, drop, max}
use Rattle.std.specs.Prelude.{fold}
use Rattle.link_places.proofs.segments.greatest_align.Given as goal

abbrev pub invariant-loop-item : goal.invariant-loop-item
invariant-loop-item l =
    fold (λ a x. max a x.align) l.greatest (drop l.item-index l.items) ≡ fold (λ a x. max a x.align) 1 l.items
