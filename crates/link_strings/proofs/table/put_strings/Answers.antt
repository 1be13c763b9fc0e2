use Rattle.std.proofs.Common.{arith}
use Rattle.link_strings.proofs.Tables.{all_put}
use Rattle.link_strings.proofs.table.put_strings.Goals as goal

pub returns : goal.returns
returns c =
    all_put c.args.names.now c.loop-name.name-index c.args.out.now.items c.loop-name.out.items (omega arith)
    c.loop-name.invariant
