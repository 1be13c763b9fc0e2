use Rattle.std.proofs.Common.{◌≡◌, ◌++◌, take}
use Rattle.std.specs.List.{flat_map}
use Rattle.ifs_stub.specs.StubFile.{terminated}
use Rattle.ifs_stub.proofs.strings.put_needed_names.Given as goal

abbrev pub invariant-loop-name : goal.invariant-loop-name
invariant-loop-name l = l.out.items ≡ l.fn.out.items ++ flat_map terminated (take l.name-index l.names)
