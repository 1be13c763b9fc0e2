use Rattle.std.proofs.Common.{◌≡◌, map}
use Rattle.std.specs.List.{find}
use Rattle.link_core.specs.OutputNames.{falls_under}
use Rattle.link_outputs.proofs.First.{first_from}
use Rattle.link_outputs.proofs.name.first_over.Given as goal

abbrev pub invariant-loop-prefix : goal.invariant-loop-prefix
invariant-loop-prefix l =
    first_from (falls_under l.name) l.prefix-index l.prefixes ≡ find (falls_under l.name) (map (λ prefix. prefix.now) l.prefixes)
