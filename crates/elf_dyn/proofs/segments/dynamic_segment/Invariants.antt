use Rattle.std.proofs.Common.{◌≡◌, ℕ}
use Rattle.std.specs.List.{find}
use Rattle.ifs_bytes.specs.Places.{places}
use Rattle.elf_file.specs.Header.{segment_in}
use Rattle.elf_dyn.specs.Segments.{is_dynamic}
use Rattle.elf_dyn.proofs.segments.dynamic_segment.Given as goal

abbrev pub invariant-loop-i : goal.invariant-loop-i
invariant-loop-i l =
    let test = λ (i : ℕ). is_dynamic (segment_in l.elf.bytes l.elf.header i) in
    find test (places l.i l.elf.header.phnum) ≡ find test (places 0 l.elf.header.phnum)
