use Rattle.std.proofs.Common.{◌&&◌, drop, refl, sym, ap, ◌∙◌}
use Rattle.ifs_edit.specs.Runs.{left_passes}
use Rattle.ifs_edit.proofs.Matching.{whole_by_run}
use Rattle.ifs_edit.proofs.glob.matches_all.Goals as goal

pub returns-then-fits : goal.returns-then-fits
returns-then-fits c =
    let whole = whole_by_run c.args.elements.now c.split_at.result.0.now c.split_at.result.1.now c.args.name.now c.behind.result.now c.run_len-len.result c.run_len-len.ensures.value c.split_at.ensures.front c.split_at.ensures.back c.behind.ensures in
    let here = sym c.fits.ensures ∙ c.if-fits.true in
    c.left_passes.ensures ∙ sym (ap (λ t. t && left_passes c.split_at.result.1.now c.behind.result.now) here) ∙ whole

pub returns-else-fits : goal.returns-else-fits
returns-else-fits c =
    let k = c.run_len-len.result in
    let left = drop k c.args.name.now in
    let whole = whole_by_run c.args.elements.now c.split_at.result.0.now c.split_at.result.1.now c.args.name.now left k c.run_len-len.ensures.value c.split_at.ensures.front c.split_at.ensures.back refl in
    let here = sym c.fits.ensures ∙ c.if-fits.false in
    c.if-fits.false ∙ sym (ap (λ t. t && left_passes c.split_at.result.1.now left) here) ∙ whole
