use Rattle.std.proofs.Common.{Some, ap, sym, ◌∙◌}
use Rattle.ifs_edit.proofs.Matching.{behind_here}
use Rattle.ifs_edit.proofs.glob.behind_run.Goals as goal

pub returns : goal.returns
returns c =
    ap (λ left. Some left) c.behind.ensures ∙ behind_here c.args.run.now c.loop-rest.rest.now (sym c.fits.ensures ∙ c.loop-rest-test.false) ∙ c.loop-rest.invariant
