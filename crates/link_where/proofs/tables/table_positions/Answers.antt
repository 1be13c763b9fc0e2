use Rattle.std.proofs.Common.{ap}
use Rattle.std.specs.Prelude.{not}
use Rattle.link_where.proofs.Tabled.{given}
use Rattle.link_where.proofs.tables.table_positions.Goals as goal

pub returns : goal.returns
returns c =
    given c.args.kind c.args.p.now c.args.moves_there c.args.words_there (not c.is_shared.result) c.args.l.now c.as_slice-sections.result.now c.as_slice.result.now
    c.first_code.result c.first_data.result c.positions_by.result c.as_slice-sections.ensures c.as_slice.ensures (ap not c.is_shared.ensures)
    c.first_code.ensures.first c.first_data.ensures.first c.positions_by.ensures
