use Rattle.std.proofs.Common.{arith}
use Rattle.elf_dyn.proofs.Division.{few_rows, few_entries}
use Rattle.elf_dyn.proofs.library.listed_count.Goals as goal

pub overflow_add-result : goal.overflow_add-result
overflow_add-result c =
    let p = c.args.places.now in
    let rows = few_rows c.args.bytes.now p.rows c.requires.lie.rows_lie in
    let entries = few_entries c.args.bytes.now p.entries c.requires.lie.entries_lie in
    omega (arith, rows, entries)
