-- Rows with their places.
use Rattle.std.specs.Prelude.{ℕ}
use Rattle.ifs_interface.specs.declared.row.DynRow.{DynRow}
use Rattle.elf_dyn.specs.declared.ranked.Ranked.{Ranked}

abbrev pub placed : Ranked → ℕ × DynRow
placed ranked = (ranked.place, ranked.row.now)
