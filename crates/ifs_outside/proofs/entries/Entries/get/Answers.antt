use Rattle.std.proofs.Common.{ap, ◌∙◌, sym, Some}
use Rattle.ifs_outside.proofs.Held.{held_at, not_held}
use Rattle.ifs_outside.proofs.entries.Entries.get.Goals as goal

pub returns-in_err-place : goal.returns-in_err-place
returns-in_err-place c = rw c.from_residual.ensures (not_held c.args.path.now c.args.self.now c.in_err-place.ensures)

pub returns-in-Some : goal.returns-in-Some
returns-in-Some c =
    let read = rw c.self.view_is at c.index.ensures in
    let held = held_at c.args.path.now c.args.self.now c.in_ok-place.place c.index.result.now c.in_ok-place.ensures read in
    ap Some c.as_bytes.ensures ∙ sym c.in-Some.is ∙ held

pub returns-in-None : goal.returns-in-None
returns-in-None c =
    let read = rw c.self.view_is at c.index.ensures in
    let held = held_at c.args.path.now c.args.self.now c.in_ok-place.place c.index.result.now c.in_ok-place.ensures read in
    sym c.in-None.is ∙ held
