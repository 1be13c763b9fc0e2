use Rattle.ifs_stub.proofs.FileSize.{length-file_by, file_is_small}
use Rattle.ifs_stub.proofs.ReadBack.Parts.{stubs_have_their_parts}
use Rattle.ifs_stub.proofs.laws.stubs_have_their_size.Goals as goal

pub returns-clause-parts : goal.returns-clause-parts
returns-clause-parts c = stubs_have_their_parts

pub returns-clause-places : goal.returns-clause-places
returns-clause-places c = length-file_by

pub returns-clause-small : goal.returns-clause-small
returns-clause-small c = file_is_small
