use Rattle.std.proofs.Common.{◌≡◌, drop}
use Rattle.std.specs.Prelude.{is_some}
use Rattle.std.specs.List.{list_all}
use Rattle.tbd_v4_read.specs.Values.{name_in}
use Rattle.tbd_v4_read.proofs.values.all_names.Given as goal

abbrev pub invariant-loop-item : goal.invariant-loop-item
invariant-loop-item l = list_all (λ item. is_some (name_in item)) (drop l.item-index l.items) ≡ list_all (λ item. is_some (name_in item)) l.items
