use Rattle.std.proofs.Common.{◌≡◌, ◌++◌}
use Rattle.std.specs.List.{filter_map}
use Rattle.ifs_bytes.specs.Places.{places}
use Rattle.elf_dyn.specs.Rows.{visible_row}
use Rattle.elf_dyn.proofs.rows.visible_rows.Given as goal

abbrev pub invariant-loop-i : goal.invariant-loop-i
invariant-loop-i l =
    l.visible.items ++ filter_map (visible_row l.bytes l.rows l.strings) (places l.i l.rows.count)
    ≡ filter_map (visible_row l.bytes l.rows l.strings) (places 1 l.rows.count)
