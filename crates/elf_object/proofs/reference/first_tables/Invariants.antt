use Rattle.std.proofs.Common.{◌-◌}
use Rattle.elf_object.specs.References.{AreFirstFrom}
use Rattle.elf_object.proofs.reference.first_tables.Given as goal

abbrev pub invariant-loop-behind : goal.invariant-loop-behind
invariant-loop-behind l = AreFirstFrom l.elf.bytes l.elf.header (l.elf.header.shnum - l.behind) l.tables.items
