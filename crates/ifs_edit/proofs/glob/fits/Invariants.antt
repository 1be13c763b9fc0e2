use Rattle.std.proofs.Common.{◌≡◌, length}
use Rattle.ifs_edit.specs.Runs.{fits}
use Rattle.ifs_edit.proofs.glob.fits.Given as goal

-- what is left has the answer
abbrev pub invariant-loop-elements : goal.invariant-loop-elements
invariant-loop-elements l = fits l.elements l.bytes ≡ fits l.run l.name

abbrev pub decreases-loop-elements : goal.decreases-loop-elements
decreases-loop-elements l = length l.elements
