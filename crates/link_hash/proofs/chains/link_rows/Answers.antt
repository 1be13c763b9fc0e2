use Rattle.std.proofs.Common.{length, ◌-◌, arith}
use Rattle.link_hash.proofs.Linked.{none_linked}
use Rattle.link_hash.proofs.chains.link_rows.Goals as goal

pub loop-behind-init : goal.loop-behind-init
loop-behind-init c =
    none_linked c.args.names.now (length c.args.names.now - 0) c.in_ok-heads.heads.items c.in_ok-nexts.nexts.items (omega arith)
    (c.in_ok-heads.ensures.items_if_clones_equal (λ y h. cc))
    (c.in_ok-nexts.ensures.items_if_clones_equal (λ y h. cc))
