use Rattle.std.proofs.Common.{◌≡◌, ◌++◌, drop}
use Rattle.std.specs.List.{filter_map}
use Rattle.ifs_text.specs.Values.{name_in}
use Rattle.ifs_text.proofs.reading.names_in.Given as goal

abbrev pub invariant-loop-item : goal.invariant-loop-item
invariant-loop-item l = l.names.items ++ filter_map name_in (drop l.item-index l.items) ≡ filter_map name_in l.items
