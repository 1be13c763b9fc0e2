use Rattle.std.proofs.Common.{length}
use Rattle.ifs_outside.proofs.Compared.{StillSame}
use Rattle.ifs_outside.proofs.std_files.holds_just.Given as goal

abbrev pub invariant-loop-count : goal.invariant-loop-count
invariant-loop-count g l = StillSame (g.F.Read.remaining l.initial.file) (g.F.Read.remaining l.file) l.bytes l.rest

abbrev pub decreases-loop-count : goal.decreases-loop-count
decreases-loop-count g l = length l.rest
