use Rattle.ifs_stub.proofs.Extracted.{extracted_have_stubs, extracted_are_made}
use Rattle.ifs_stub.proofs.KeptFacts.{extracted_keep_facts, stubs_of_libraries_have_their_facts}
use Rattle.ifs_stub.proofs.Kept.{extracted_are_kept}
use Rattle.ifs_stub.proofs.ReadBack.Stubs.{stubs_are_made}
use Rattle.ifs_stub.proofs.laws.extracted_interfaces_have_stubs.Goals as goal

pub returns : goal.returns
returns c = record { made = stubs_are_made; extracted = extracted_have_stubs; extracted_made = extracted_are_made; kept = extracted_are_kept; facts = extracted_keep_facts; stubs_have_facts = stubs_of_libraries_have_their_facts }
