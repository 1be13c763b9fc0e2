use Rattle.std.proofs.Common.{refl, arith}
use Rattle.ifs_edit.proofs.Reading.{elements_more, left_within}
use Rattle.ifs_edit.proofs.glob.Glob.from_elements.Goals as goal

pub loop-rest-preserved : goal.loop-rest-preserved
loop-rest-preserved c =
    let within = c.loop-rest.invariant.within in
    let some = c.in-len1-up.len_at_least in
    let shorter = left_within c.args.pattern.now c.loop-rest.rest.now c.behind-rest.result.now _ c.in-Some.front.1 within some refl c.behind-rest.ensures in
    record {
      value = rw c.in_ok-push-in-Some.ensures.items (elements_more c.args.pattern.now c.loop-rest.rest.now c.behind-rest.result.now _ c.loop-rest.elements.items _ c.in-Some.front within some refl c.in_ok-front.ensures c.in-Some.is c.behind-rest.ensures c.loop-rest.invariant.value);
      within = omega arith;
    }
