use Rattle.std.proofs.Common.{◌≡◌, true, take}
use Rattle.std.specs.List.{list_all}
use Rattle.ifs_interface.specs.Interface.{is_proper_name, names_of}
use Rattle.ifs_edit.specs.Merged.{all_symbols}
use Rattle.ifs_edit.specs.Sorted.{pointed}
use Rattle.ifs_edit.proofs.sorted.all_symbols.Given as goal

abbrev pub invariant-loop-interface : goal.invariant-loop-interface
invariant-loop-interface l = record {
  value : pointed l.all.items ≡ all_symbols (take l.interface-index l.list);
  proper : list_all is_proper_name (names_of (pointed l.all.items)) ≡ true;
}
