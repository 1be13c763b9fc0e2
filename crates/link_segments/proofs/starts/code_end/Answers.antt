use Rattle.std.proofs.Common.{◌<◌, ◌^◌, ap, subst, sym, ℕ}
use Rattle.link_placed.specs.Made.{link_of}
use Rattle.link_where.specs.declared.ends.Ends.{Ends}
use Rattle.link_segments.proofs.Ends.{code_low}
use Rattle.link_segments.proofs.starts.code_end.Goals as goal

pub returns-clause-low : goal.returns-clause-low
returns-clause-low g c =
    let P : ℕ → Type 0 = λ n. n < 2 ^ 33 in
    subst P (sym (ap (λ (e : Ends). e.code) c.ends.ensures))
    (code_low (link_of g.M.Machine.rules c.args.p.now) c.args.p.now.layout c.is_made.ensures)
