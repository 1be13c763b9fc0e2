use Rattle.std.proofs.Common.{drop, length}
use Rattle.link_pieces.proofs.Clearing.{all_cleared}
use Rattle.link_pieces.proofs.flags.kept_flags.Goals as goal

pub returns : goal.returns
returns c =
    all_cleared c.args.dropped.now c.args.objects.now c.in_ok-all.all.len c.deref_mut.result.now c.clear_dropped.new.all
    (drop (length c.clear_dropped.new.all) c.in_ok-all.all.items) c.deref_mut.ensures.len (rw c.deref_mut.ensures.value c.in_ok-all.ensures) c.clear_dropped.ensures
