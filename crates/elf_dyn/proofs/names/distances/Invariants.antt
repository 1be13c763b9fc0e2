use Rattle.std.proofs.Common.{◌≡◌, ℕ, ◌+◌, ◌*◌, ◌<◌, ◌≤◌, length, slice_index}
use Rattle.elf_dyn.specs.NameEnds.{distance}
use Rattle.elf_dyn.proofs.names.distances.Given as goal

abbrev pub invariant-loop-k : goal.invariant-loop-k
invariant-loop-k l = record {
  so_far : (j : ℕ) → j < l.k → slice_index l.far.items j ≡ distance l.table (64 * j);
  as_many : length l.far.items ≡ l.k;
  found : 64 * l.k ≤ l.found → l.found ≡ 64 * l.k + distance l.table (64 * l.k);
}
