use Rattle.std.proofs.Common.{◌≡◌, true}
use Rattle.std.specs.List.{list_all}
use Rattle.ifs_interface.specs.Interface.{is_proper_name}
use Rattle.ifs_stub.proofs.tests.copies.Given as goal

abbrev pub invariant-loop-turn : goal.invariant-loop-turn
invariant-loop-turn l = list_all is_proper_name l.names.items ≡ true
