use Rattle.ifs_bytes.proofs.Range.{filter_map_turn}
use Rattle.elf_dyn.specs.Entries.{needed_at}
use Rattle.elf_dyn.proofs.entries.needed_of.Goals as goal

pub loop-i-preserved : goal.loop-i-preserved
loop-i-preserved c =
    filter_map_turn (needed_at c.args.bytes.now c.args.entries c.args.strings) c.loop-i.i c.args.count _ _ _ _ c.loop-i-test.true c.needed_at.ensures c.in_ok-push_name.ensures c.loop-i.invariant
