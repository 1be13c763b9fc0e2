use Rattle.std.proofs.Common.{◌≡◌, ℕ}
use Rattle.std.specs.Prelude.{◌&&◌, is_none}
use Rattle.std.specs.List.{find}
use Rattle.ifs_bytes.specs.Places.{places}
use Rattle.elf_dyn.specs.Entries.{is_named, entry_name}
use Rattle.elf_dyn.proofs.entries.bad_entry.Given as goal

abbrev pub invariant-loop-i : goal.invariant-loop-i
invariant-loop-i l =
    let test = λ (i : ℕ). is_named l.names.bytes.now l.entries l.soname i && is_none (entry_name l.names.bytes.now l.entries l.names.strings i) in
    find test (places l.i l.count) ≡ find test (places 0 l.count)
