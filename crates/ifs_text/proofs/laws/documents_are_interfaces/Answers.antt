use Rattle.ifs_text.proofs.DocumentBack.Whole.{documents_are_interfaces, texts_are_interfaces}
use Rattle.ifs_text.proofs.laws.documents_are_interfaces.Goals as goal

pub returns : goal.returns
returns c = record { documents = documents_are_interfaces; texts = texts_are_interfaces }
