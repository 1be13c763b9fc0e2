use Rattle.ifs_interface.proofs.Lookup.{wanted_are, wanted_ascend}
use Rattle.ifs_interface.proofs.interface.InterfaceSharedLib.wanted_len.Goals as goal

pub returns-clause-wanted : goal.returns-clause-wanted
returns-clause-wanted c = rw (← c.self.view_is) (λ name. wanted_are c.self.inside.symbols name c.self.invariant.ascending)

pub returns-clause-order : goal.returns-clause-order
returns-clause-order c = rw (← c.self.view_is) (wanted_ascend c.self.inside.symbols c.self.invariant.ascending)
