use Rattle.tbd_v4_read.specs.Library.{objc_symbols}
use Rattle.tbd_v4_read.proofs.Joined.{joined_three}
use Rattle.tbd_v4_read.proofs.library.push_objc.Goals as goal

pub returns : goal.returns
unfolding objc_symbols
returns c = joined_three _ _ _ _ _ _ _ c.in_ok-push_listed.ensures c.in_ok-push_listed-2.ensures c.in_ok-push_listed-3.ensures
