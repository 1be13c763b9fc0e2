use Rattle.std.proofs.Common.{◌≡◌, filter, length}
use Rattle.link_core.specs.Mentions.{is_strong_definition}
use Rattle.link_mentions.proofs.twice.defined_twice.Given as goal

abbrev pub invariant-loop-rest : goal.invariant-loop-rest
invariant-loop-rest l = filter is_strong_definition l.rest ≡ filter is_strong_definition l.mentions

abbrev pub decreases-loop-rest : goal.decreases-loop-rest
decreases-loop-rest l = length l.rest
