use Rattle.std.proofs.Common.{◌≡◌, ◌-◌, ◌≤◌, length}
use Rattle.ifs_edit.specs.Elements.{items_from}
use Rattle.ifs_edit.proofs.Reading.{grown}
use Rattle.ifs_edit.proofs.set.items.Given as goal

-- what was read, before what is left
abbrev pub invariant-loop-rest : goal.invariant-loop-rest
invariant-loop-rest l = record {
  value : items_from 0 l.bytes ≡ grown l.spans.items (length l.bytes - length l.rest) (items_from 0 l.rest);
  within : length l.rest ≤ length l.bytes;
}

abbrev pub decreases-loop-rest : goal.decreases-loop-rest
decreases-loop-rest l = length l.rest
