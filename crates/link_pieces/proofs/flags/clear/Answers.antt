use Rattle.link_pieces.proofs.Clearing.{row_cleared}
use Rattle.link_pieces.proofs.flags.clear.Goals as goal

pub returns-then-object-all : goal.returns-then-object-all
returns-then-object-all c =
    row_cleared c.args.all.now c.args.member.now.object c.args.member.now.section c.index-all-object.result c.clear_flag.new.flags
    c.if-object-all.true c.clear_flag.ensures
