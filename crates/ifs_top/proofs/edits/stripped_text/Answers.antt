use Rattle.std.proofs.Common.{sym}
use Rattle.ifs_top.proofs.Unchanged.{unstripped}
use Rattle.ifs_top.proofs.edits.stripped_text.Goals as goal

pub returns-then-strips_nothing : goal.returns-then-strips_nothing
returns-then-strips_nothing c = rw (unstripped c.args.interface.now c.args.strip.now (sym c.if-strips_nothing.ensures)) c.print.ensures.text
