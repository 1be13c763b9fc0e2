use Rattle.std.proofs.Common.{◌≡◌, ℕ, List, drop}
use Rattle.link_commons.specs.Asked.{asked_in, asks, more_of}
use Rattle.link_commons.proofs.asked.note_rows.Given as goal

abbrev pub invariant-loop-row : goal.invariant-loop-row
invariant-loop-row l =
    (q : List ℕ) → more_of (asked_in l.asked q) (asks q) (drop l.row-index l.rows) ≡ more_of (asked_in l.initial.asked q) (asks q) l.rows
