use Rattle.elf_dyn.proofs.Distances.{nul_found, nul_missed}
use Rattle.elf_dyn.proofs.names.nul_or_end.Goals as goal

pub returns-in-Some-clause-place : goal.returns-in-Some-clause-place
returns-in-Some-clause-place c = nul_found c.args.bytes.now c.in-Some.place c.in-Some.ensures

pub returns-in-None-clause-place : goal.returns-in-None-clause-place
returns-in-None-clause-place c = nul_missed c.args.bytes.now c.in-None.ensures
