use Rattle.std.proofs.Common.{◌∙◌, ap, not}
use Rattle.link_pieces.specs.Marks.{names}
use Rattle.link_pieces.proofs.Keys.{key_seen, key_put, not_not}
use Rattle.link_pieces.proofs.dropped.note.Goals as goal

pub returns-clause-known : goal.returns-clause-known
returns-clause-known c =
    ap not c.in_ok-is_first.ensures.added ∙ not_not _ ∙ key_seen c.args.seen.now.keys c.args.signature.now

pub returns-clause-noted : goal.returns-clause-noted
returns-clause-noted c = ap names c.in_ok-is_first.ensures.keys ∙ key_put c.args.seen.now.keys c.args.signature
