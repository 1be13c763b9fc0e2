use Rattle.std.proofs.Common.{refl, sym, ◌∙◌}
use Rattle.yaml_tokens.proofs.Sizes.{bad_escape_turn, bad_escape_seen}
use Rattle.yaml_tokens.proofs.scalar.bad_escape.Goals as goal

pub loop-rest-preserved : goal.loop-rest-preserved
loop-rest-preserved c =
    let good = sym c.is_bad_escape.ensures ∙ c.if-is_bad_escape.false in
    record {
      value = bad_escape_turn _ _ _ _ c.loop-rest.rest.now _ c.in-len1-up.len_at_least refl good c.next_size-size.ensures c.behind-rest.ensures c.loop-rest.invariant.value;
      seen = bad_escape_seen _ _ _ _ c.loop-rest.rest.now _ c.in-len1-up.len_at_least refl good c.next_size-size.ensures c.behind-rest.ensures c.loop-rest.invariant.seen;
    }
