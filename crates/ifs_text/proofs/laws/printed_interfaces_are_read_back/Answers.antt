use Rattle.ifs_text.proofs.PrintedDocument.{printed_is_its_document}
use Rattle.ifs_text.proofs.ReadBack.{printed_is_read_back}
use Rattle.ifs_text.proofs.laws.printed_interfaces_are_read_back.Goals as goal

pub returns : goal.returns
returns c = record { document = printed_is_its_document; interface = printed_is_read_back }
