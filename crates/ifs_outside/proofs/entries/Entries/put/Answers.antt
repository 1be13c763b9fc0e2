use Rattle.std.proofs.Common.{Some}
use Rattle.ifs_outside.proofs.Held.{changed, pushed}
use Rattle.ifs_outside.proofs.entries.Entries.put.Goals as goal

pub returns-in-Some-clause-ok : goal.returns-in-Some-clause-ok
returns-in-Some-clause-ok c = rw c.in_ok-bytes.ensures at (changed c.args.path.now (Some c.in_ok-bytes.bytes) c.args.self.now c.change.new.self c.in-Some.place c.in-Some.ensures c.change.ensures)

pub returns-in_ok-push-in-None-clause-ok : goal.returns-in_ok-push-in-None-clause-ok
returns-in_ok-push-in-None-clause-ok c =
    rw (c.in_ok-push-in-None.ensures.items, c.self.view_is, c.in_ok-from_slice-in-None.ensures, c.in_ok-bytes.ensures)
    (pushed c.args.self.now (record { path = c.args.path.now; bytes = Some c.args.bytes.now }) c.in-None.ensures)
