use Rattle.tbd_v4_read.specs.Library.{symbols_of}
use Rattle.tbd_v4_read.proofs.Joined.{joined_four}
use Rattle.tbd_v4_read.proofs.library.push_symbols.Goals as goal

pub returns : goal.returns
unfolding symbols_of
returns c =
    joined_four _ _ _ _ _ _ _ _ _ c.in_ok-push_listed.ensures c.in_ok-push_objc.ensures c.in_ok-push_listed-2.ensures c.in_ok-push_listed-3.ensures
