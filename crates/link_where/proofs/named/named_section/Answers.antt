use Rattle.std.proofs.Common.{ap}
use Rattle.std.specs.Prelude.{not}
use Rattle.link_where.proofs.ByName.{given}
use Rattle.link_where.proofs.named.named_section.Goals as goal

pub returns : goal.returns
returns c =
    given c.args.kind c.args.p.now c.args.moves_there c.args.words_there (not c.is_shared.result) c.args.l.now c.args.outputs.now c.as_slice-2.result.now
    c.as_slice.result.now c.args.name.now _ c.as_slice-2.ensures c.as_slice.ensures (ap not c.is_shared.ensures) c.section_by.ensures
