use Rattle.std.proofs.Common.{refl, sym, ap, ◌∙◌}
use Rattle.ifs_edit.proofs.Matching.{ends_last, ends_more, passes_behind}
use Rattle.ifs_edit.proofs.glob.ends_match.Goals as goal

pub returns-in-empty : goal.returns-in-empty
returns-in-empty c =
    c.fits_end.ensures ∙ sym (ends_last c.loop-rest.elements.now c.split_at.result.0.now c.split_at.result.1.now c.loop-rest.name.now c.run_len.result c.run_len.ensures.value c.split_at.ensures.front c.split_at.ensures.back c.in-empty.len_below) ∙ c.loop-rest.invariant

pub loop-rest-preserved : goal.loop-rest-preserved
loop-rest-preserved c =
    let more = ends_more c.loop-rest.elements.now c.split_at.result.0.now c.split_at.result.1.now _ c.loop-rest.name.now c.run_len.result c.run_len.ensures.value c.split_at.ensures.front c.split_at.ensures.back c.in-len1-up.len_at_least refl in
    ap (passes_behind _) c.in-Some.ensures ∙ sym more ∙ c.loop-rest.invariant

pub returns-in-None : goal.returns-in-None
returns-in-None c =
    let more = ends_more c.loop-rest.elements.now c.split_at.result.0.now c.split_at.result.1.now _ c.loop-rest.name.now c.run_len.result c.run_len.ensures.value c.split_at.ensures.front c.split_at.ensures.back c.in-len1-up.len_at_least refl in
    ap (passes_behind _) c.in-None.ensures ∙ sym more ∙ c.loop-rest.invariant
