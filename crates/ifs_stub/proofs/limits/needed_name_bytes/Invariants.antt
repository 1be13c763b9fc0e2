use Rattle.std.proofs.Common.{◌≡◌, ◌+◌, ◌<◌, ◌^◌, drop}
use Rattle.ifs_bytes.specs.Carried.{carried}
use Rattle.ifs_stub.specs.StubFile.{needed_name_bytes}
use Rattle.ifs_stub.proofs.limits.needed_name_bytes.Given as goal

abbrev pub invariant-loop-name : goal.invariant-loop-name
invariant-loop-name l = record {
  counted : carried (l.total + needed_name_bytes (drop l.name-index l.names)) ≡ carried (needed_name_bytes l.names);
  bounded : l.total < 2 ^ 64;
}
