use Rattle.std.proofs.Common.{◌≡◌, map, take}
use Rattle.link_pieces.specs.Flags.{rows, loadable_of}
use Rattle.link_pieces.proofs.flags.loadable_flags.Given as goal

abbrev pub invariant-loop-object : goal.invariant-loop-object
invariant-loop-object l = rows l.all.items ≡ map loadable_of (take l.object-index l.objects)
