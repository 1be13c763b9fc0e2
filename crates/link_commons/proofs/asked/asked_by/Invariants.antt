use Rattle.std.proofs.Common.{◌≡◌, ℕ, List, drop}
use Rattle.link_commons.specs.Asked.{asked_in, gathered, nothing}
use Rattle.link_commons.proofs.asked.asked_by.Given as goal

abbrev pub invariant-loop-object : goal.invariant-loop-object
invariant-loop-object l =
    (q : List ℕ) → gathered q (asked_in l.asked q) (drop l.object-index l.objects) ≡ gathered q nothing l.objects
