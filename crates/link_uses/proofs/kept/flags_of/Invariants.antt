use Rattle.std.proofs.Common.{◌≡◌, ℕ, ◌<◌, length}
use Rattle.link_core.specs.Kept.{is_kept}
use Rattle.link_uses.specs.Passes.{has_flag}
use Rattle.link_uses.proofs.kept.flags_of.Given as goal

abbrev pub invariant-loop-section : goal.invariant-loop-section
invariant-loop-section l = record {
  many : length l.flags.items ≡ l.section;
  sections : (k : ℕ) → k < l.section → has_flag l.flags.items k ≡ is_kept l.dropped l.object l.own k;
}
