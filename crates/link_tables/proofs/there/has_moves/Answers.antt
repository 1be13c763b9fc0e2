use Rattle.link_tables.proofs.TablesThere.{moves_given}
use Rattle.link_tables.proofs.there.has_moves.Goals as goal

pub returns : goal.returns
returns c =
    moves_given c.args.objects.now c.args.names.now c.args.kind c.args.p.now c.as_slice.result.now c.as_slice-2.result.now c.fills_in-fills.result c.either.result
    c.as_slice.ensures c.as_slice-2.ensures c.fills_in-fills.ensures c.either.ensures
