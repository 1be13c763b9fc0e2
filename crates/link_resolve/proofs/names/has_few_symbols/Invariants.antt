use Rattle.std.proofs.Common.{ℕ, ◌<◌, ◌^◌, length, get_or}
use Rattle.link_resolve.proofs.names.has_few_symbols.Given as goal

abbrev pub invariant-loop-object : goal.invariant-loop-object
invariant-loop-object l = (k : ℕ) (d : _) → k < l.object-index → length (get_or l.objects k d).symbols < 2 ^ 32
