use Rattle.ifs_stub.proofs.Extracted.{extracted_are_made}
use Rattle.ifs_stub.proofs.interface.extract.Goals as goal

pub returns-clause-stub : goal.returns-clause-stub
returns-clause-stub c =
    let read = c.rows.ensures.read in
    extracted_are_made read.file c.args.library.now read.bytes read.is_its
