use Rattle.std.proofs.Common.{ap, length, ◌∙◌}
use Rattle.std.proofs.lemmas.Result.{IfOk-weaker}
use Rattle.link_outputs.specs.Pieces.{pieces_from}
use Rattle.link_outputs.proofs.Kept.{flags_long, kept_is}
use Rattle.link_outputs.proofs.piece.kept_pieces.Goals as goal

pub flagged_pieces-requires-clause-long : goal.flagged_pieces-requires-clause-long
flagged_pieces-requires-clause-long c =
    ap length c.deref.ensures.value ∙ flags_long c.args.dropped.now c.args.objects.now c.in_ok-flags.flags.items c.in_ok-flags.ensures

pub returns : goal.returns
returns c =
    IfOk-weaker c.flagged_pieces.result _ _
    (λ pieces is. is ∙ ap (λ flags. pieces_from 0 flags c.args.objects.now) c.deref.ensures.value
    ∙ kept_is c.args.dropped.now c.args.objects.now c.in_ok-flags.flags.items c.in_ok-flags.ensures)
    c.flagged_pieces.ensures
