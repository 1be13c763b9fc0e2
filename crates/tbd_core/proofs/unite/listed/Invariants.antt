use Rattle.std.proofs.Common.{◌≡◌, map}
use Rattle.tbd_core.proofs.unite.listed.Given as goal

abbrev pub invariant-loop-place : goal.invariant-loop-place
invariant-loop-place l = l.places.items ≡ map (λ place. place.now) l.yielded
