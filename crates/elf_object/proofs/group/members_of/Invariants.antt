use Rattle.std.proofs.Common.{◌≡◌, ◌++◌, map}
use Rattle.ifs_bytes.specs.Places.{places}
use Rattle.elf_object.specs.Parts.{word_in, word_count}
use Rattle.elf_object.proofs.group.members_of.Given as goal

abbrev pub invariant-loop-k : goal.invariant-loop-k
invariant-loop-k l =
    l.members.items ++ map (word_in l.bytes l.span) (places l.k (word_count l.span))
    ≡ map (word_in l.bytes l.span) (places 1 (word_count l.span))
