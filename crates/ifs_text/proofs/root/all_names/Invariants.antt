use Rattle.std.proofs.Common.{◌≡◌, drop}
use Rattle.std.specs.Prelude.{is_some}
use Rattle.std.specs.List.{list_all}
use Rattle.ifs_text.specs.Values.{name_in}
use Rattle.ifs_text.proofs.root.all_names.Given as goal

abbrev pub invariant-loop-item : goal.invariant-loop-item
invariant-loop-item l = list_all (λ item. is_some (name_in item)) (drop l.item-index l.items) ≡ list_all (λ item. is_some (name_in item)) l.items
