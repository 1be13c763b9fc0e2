use Rattle.std.proofs.Common.{◌≡◌}
use Rattle.ifs_bytes.specs.Places.{places}
use Rattle.tbd_v4_read.proofs.library.all_places.Given as goal

abbrev pub invariant-loop-place : goal.invariant-loop-place
invariant-loop-place l = l.all.items ≡ places 0 l.place
