use Rattle.std.proofs.Common.{◌≡◌}
use Rattle.link_objects.proofs.Reading.{behind_from, objects_from}
use Rattle.link_objects.proofs.objects.objects_in.Given as goal

abbrev pub invariant-loop-i : goal.invariant-loop-i
invariant-loop-i l = behind_from l.objects.items l.files l.i ≡ objects_from 0 l.files
