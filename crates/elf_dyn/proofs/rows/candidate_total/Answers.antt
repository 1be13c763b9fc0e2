use Rattle.std.proofs.Common.{arith}
use Rattle.ifs_bytes.proofs.Range.{sum_end}
use Rattle.elf_dyn.specs.Rows.{candidate_size, candidate_bytes}
use Rattle.elf_dyn.proofs.rows.candidate_total.Goals as goal

pub returns : goal.returns
unfolding candidate_bytes
returns c =
    let none = sum_end (candidate_size c.args.lengths.now.names.bytes.now c.args.rows c.args.lengths.now.names.strings) c.loop-i.i c.args.rows.count c.loop-i-test.false in
    omega (arith, none, c.loop-i.invariant.counted, c.loop-i.invariant.bounded)
