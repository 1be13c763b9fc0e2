use Rattle.std.proofs.Common.{rules}
use Rattle.std.proofs.lemmas.Fn.{always_returns_same}
use Rattle.link_core.specs.References.{at_of}
use Rattle.link_order.specs.Order.{is_before, is_of}
use Rattle.link_order.proofs.Items.{items_found}
use Rattle.link_order.proofs.run.run_of.Goals as goal

pub returns-clause-run : goal.returns-clause-run
returns-clause-run g c =
    let object = c.args.object in
    let section = c.args.section in
    items_found g.T.Referring.use_of c.args.items.now _ object section c.partition_point-start.result
    c.partition_point-count.result c.partition_point-start.ensures.bound c.split_at.ensures.back
    c.partition_point-count.ensures.bound
    (c.partition_point-start.ensures.partitioned
    (λ x. is_before object section (at_of (g.T.Referring.use_of x)))
    (always_returns_same _ _ _ (λ a r f h. search rules)))
    (c.partition_point-count.ensures.partitioned
    (λ x. is_of object section (at_of (g.T.Referring.use_of x)))
    (always_returns_same _ _ _ (λ a r f h. search rules)))
