use Rattle.ifs_bytes.proofs.Range.{filter_map_turn}
use Rattle.elf_dyn.specs.Rows.{visible_row}
use Rattle.elf_dyn.proofs.rows.visible_rows.Goals as goal

pub loop-i-preserved : goal.loop-i-preserved
loop-i-preserved c =
    filter_map_turn (visible_row c.args.bytes.now c.args.rows c.args.strings) c.loop-i.i c.args.rows.count _ _ _ _ c.loop-i-test.true c.in_ok-visible_row.ensures c.in_ok-push_row.ensures c.loop-i.invariant
