use Rattle.std.proofs.Common.{◌≡◌, ℕ, ◌<◌, length}
use Rattle.link_targets.specs.Targets.{target_at}
use Rattle.link_uses.specs.Passes.{looked_up}
use Rattle.link_uses.proofs.table.targets_of.Given as goal

abbrev pub invariant-loop-row : goal.invariant-loop-row
invariant-loop-row l = record {
  many : length l.table.items ≡ l.row;
  rows : (k : ℕ) → k < l.row
      → looked_up l.given.names l.object l.table.items k
      ≡ target_at l.given.names l.given.objects l.object l.own k;
}
