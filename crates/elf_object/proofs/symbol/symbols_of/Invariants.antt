use Rattle.std.proofs.Common.{◌≡◌, ◌++◌, map}
use Rattle.ifs_bytes.specs.Places.{places}
use Rattle.elf_object.specs.Symbols.{row_count, symbol_of}
use Rattle.elf_object.proofs.symbol.symbols_of.Given as goal

abbrev pub invariant-loop-i : goal.invariant-loop-i
invariant-loop-i l =
    l.symbols.items ++ map (symbol_of l.elf.bytes l.elf.header l.parts) (places l.i (row_count l.parts))
    ≡ map (symbol_of l.elf.bytes l.elf.header l.parts) (places 0 (row_count l.parts))
