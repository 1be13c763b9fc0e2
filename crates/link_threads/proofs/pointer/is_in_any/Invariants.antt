use Rattle.std.proofs.Common.{◌≡◌, drop}
use Rattle.std.specs.List.{enumerate_from, list_any}
use Rattle.link_pieces.specs.Flags.{rows}
use Rattle.link_threads.specs.Pointer.{is_in_any, is_in_object}
use Rattle.link_threads.proofs.pointer.is_in_any.Given as goal

abbrev pub invariant-loop-object : goal.invariant-loop-object
invariant-loop-object g l =
    list_any (is_in_object g.M.Machine.rules (rows l.all)) (enumerate_from l.object (drop l.object l.objects)) ≡ is_in_any g.M.Machine.rules (rows l.all) l.objects
