use Rattle.std.proofs.Common.{sym}
use Rattle.elf_object.proofs.Lying.{all_lie}
use Rattle.elf_object.proofs.object.object_header.Goals as goal

pub returns-in-None-clause-lie : goal.returns-in-None-clause-lie
returns-in-None-clause-lie c = all_lie c.in_ok-elf.elf.bytes c.in_ok-elf.elf.header (sym c.in-None.ensures.exact)
