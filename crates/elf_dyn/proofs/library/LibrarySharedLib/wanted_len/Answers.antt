use Rattle.ifs_interface.proofs.WantedRows.{wanted_are, wanted_rise}
use Rattle.elf_dyn.proofs.library.LibrarySharedLib.wanted_len.Goals as goal

pub returns-clause-wanted : goal.returns-clause-wanted
returns-clause-wanted c = λ name. wanted_are c.args.self.now name

pub returns-clause-order : goal.returns-clause-order
returns-clause-order c = wanted_rise c.args.self.now
