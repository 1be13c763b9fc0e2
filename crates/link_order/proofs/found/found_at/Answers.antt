use Rattle.std.proofs.Common.{rules}
use Rattle.std.proofs.lemmas.Fn.{always_returns_same}
use Rattle.link_core.specs.References.{at_of}
use Rattle.link_order.specs.Order.{at_before}
use Rattle.link_order.proofs.Items.{item_found}
use Rattle.link_order.proofs.found.found_at.Goals as goal

pub returns : goal.returns
returns g c =
    let wanted = c.args.at.now in
    item_found g.T.Referring.use_of c.args.items.now wanted c.partition_point-position.result _
    c.partition_point-position.ensures.bound
    (c.partition_point-position.ensures.partitioned (λ x. at_before (at_of (g.T.Referring.use_of x)) wanted)
    (always_returns_same _ _ _ (λ a r f h. search rules)))
    c.item_if_at.ensures
