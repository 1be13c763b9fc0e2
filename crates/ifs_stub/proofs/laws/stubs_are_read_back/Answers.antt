use Rattle.ifs_stub.proofs.ReadBack.Facts.{stubs_keep_facts}
use Rattle.ifs_stub.proofs.ReadBack.Interfaces.{stubs_keep_interfaces}
use Rattle.ifs_stub.proofs.ReadBack.Libraries.{stubs_are_read}
use Rattle.ifs_stub.proofs.ReadBack.Stubs.{stubs_are_read_back, stubs_have_the_facts}
use Rattle.ifs_stub.proofs.laws.stubs_are_read_back.Goals as goal

pub returns : goal.returns
returns c = record { read = stubs_are_read; kept = stubs_keep_interfaces; facts = stubs_keep_facts; read_back = stubs_are_read_back; have_facts = stubs_have_the_facts }
