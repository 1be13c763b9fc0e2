use Rattle.std.proofs.Common.{◌≡◌, ◌++◌, map}
use Rattle.ifs_bytes.specs.Places.{places}
use Rattle.elf_object.specs.References.{entry_of, entry_count}
use Rattle.elf_object.proofs.reference.push_entries.Given as goal

abbrev pub invariant-loop-k : goal.invariant-loop-k
invariant-loop-k l =
    l.references.items ++ map (entry_of l.bytes l.table) (places l.k (entry_count l.table))
    ≡ l.initial.references.items ++ map (entry_of l.bytes l.table) (places 0 (entry_count l.table))
