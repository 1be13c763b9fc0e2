use Rattle.std.proofs.Common.{◌≡◌, take}
use Rattle.tbd_v4.specs.Listed.{listed_names}
use Rattle.tbd_v4.proofs.listed.listed_names.Given as goal

abbrev pub invariant-loop-named : goal.invariant-loop-named
invariant-loop-named l = l.entries.items ≡ listed_names l.list (take l.named-index l.names)
