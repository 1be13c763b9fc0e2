use Rattle.std.proofs.Common.{arith}
use Rattle.ifs_bytes.proofs.Range.{sum_end}
use Rattle.elf_dyn.specs.Entries.{needed_at, needed_bytes}
use Rattle.elf_dyn.specs.Strings.{bytes_of}
use Rattle.elf_dyn.proofs.entries.needed_total.Goals as goal

pub returns : goal.returns
unfolding needed_bytes
returns c =
    let none = sum_end (λ i. bytes_of (needed_at c.args.lengths.now.names.bytes.now c.args.entries c.args.lengths.now.names.strings i)) c.loop-i.i c.args.count c.loop-i-test.false in
    omega (arith, none, c.loop-i.invariant.counted, c.loop-i.invariant.bounded)
