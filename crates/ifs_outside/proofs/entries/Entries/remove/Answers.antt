use Rattle.std.proofs.Common.{None}
use Rattle.ifs_outside.proofs.Held.{changed, taken_away}
use Rattle.ifs_outside.proofs.entries.Entries.remove.Goals as goal

pub returns-in-Some : goal.returns-in-Some
returns-in-Some c =
    changed c.args.path.now None c.args.self.now c.change.new.self c.in-Some.place c.in-Some.ensures c.change.ensures

pub returns-in_default : goal.returns-in_default
returns-in_default c = taken_away c.args.path.now c.args.self.now c.in_default.ensures
