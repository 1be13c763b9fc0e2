use Rattle.std.proofs.Common.{◌≡◌}
use Rattle.std.specs.List.{find}
use Rattle.ifs_bytes.specs.Places.{places}
use Rattle.elf_object.specs.Symbols.{row_count, is_ifunc}
use Rattle.elf_object.proofs.symbol.ifunc_row.Given as goal

abbrev pub invariant-loop-i : goal.invariant-loop-i
invariant-loop-i l =
    find (is_ifunc l.elf.bytes l.elf.header l.parts) (places l.i (row_count l.parts))
    ≡ find (is_ifunc l.elf.bytes l.elf.header l.parts) (places 0 (row_count l.parts))
