use Rattle.std.proofs.Common.{◌≡◌, drop}
use Rattle.std.specs.List.{find}
use Rattle.ifs_interface.specs.Extracted.{is_defined}
use Rattle.ifs_stub.specs.Rows.{pointed}
use Rattle.ifs_stub.proofs.described.first_defined.Given as goal

abbrev pub invariant-loop-row : goal.invariant-loop-row
invariant-loop-row l = find is_defined (pointed (drop l.row-index l.rows)) ≡ find is_defined (pointed l.rows)
