use Rattle.std.proofs.Common.{◌≡◌, ◌++◌, drop}
use Rattle.elf_dyn.specs.ByName.{rows_at}
use Rattle.ifs_stub.specs.Rows.{pointed}
use Rattle.ifs_stub.proofs.collapse.rows_at.Given as goal

abbrev pub invariant-loop-place : goal.invariant-loop-place
invariant-loop-place l =
    pointed l.sorted.items ++ rows_at l.rows (drop l.place-index l.places) ≡ rows_at l.rows l.places
