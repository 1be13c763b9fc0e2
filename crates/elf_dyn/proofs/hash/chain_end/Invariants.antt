use Rattle.std.proofs.Common.{◌≡◌, ◌+◌, ◌*◌, ℕ, length}
use Rattle.std.specs.List.{find}
use Rattle.ifs_bytes.specs.Places.{places}
use Rattle.elf_dyn.specs.Hash.{ends_chain}
use Rattle.elf_dyn.proofs.hash.chain_end.Given as goal

abbrev pub invariant-loop-i : goal.invariant-loop-i
invariant-loop-i l =
    let test = λ (i : ℕ). ends_chain l.bytes l.order (l.from + 4 * i) in
    record {
      found : find test (places l.i (length l.bytes + 1)) ≡ find test (places 0 (length l.bytes + 1));
      place_is : l.place ≡ l.from + 4 * l.i;
    }
