use Rattle.elf_dyn.proofs.Distances.{start_behind, start_nowhere}
use Rattle.elf_dyn.proofs.names.end_of.Goals as goal

pub returns-in-Some : goal.returns-in-Some
returns-in-Some c = start_behind c.args.table.now c.in-Some.place c.in-Some.ensures

pub returns-in-None : goal.returns-in-None
returns-in-None c = start_nowhere c.args.table.now c.in-None.ensures
