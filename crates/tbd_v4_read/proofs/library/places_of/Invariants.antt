use Rattle.std.proofs.Common.{◌≡◌, ◌++◌, drop}
use Rattle.std.specs.List.{filter_map}
use Rattle.tbd_v4_read.specs.Library.{place_in}
use Rattle.tbd_v4_read.proofs.library.places_of.Given as goal

abbrev pub invariant-loop-item : goal.invariant-loop-item
invariant-loop-item l = l.places.items ++ filter_map (place_in l.targets) (drop l.item-index l.items) ≡ filter_map (place_in l.targets) l.items
