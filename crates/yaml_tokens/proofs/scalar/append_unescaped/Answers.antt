use Rattle.std.proofs.Common.{refl}
use Rattle.yaml_tokens.proofs.Sizes.{unescaped_turn}
use Rattle.yaml_tokens.proofs.scalar.append_unescaped.Goals as goal

pub loop-rest-preserved : goal.loop-rest-preserved
loop-rest-preserved c =
    unescaped_turn _ _ _ _ _ c.loop-rest.rest.now _ c.in-len1-up.len_at_least refl c.in_ok-append_next.ensures c.next_size.ensures c.behind-rest.ensures c.loop-rest.invariant
