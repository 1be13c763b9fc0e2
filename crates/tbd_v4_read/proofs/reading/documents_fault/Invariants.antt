use Rattle.std.proofs.Common.{◌≡◌, drop}
use Rattle.yaml_maps.specs.Maps.{first_of}
use Rattle.tbd_v4_read.specs.Text.{document_fault}
use Rattle.tbd_v4_read.proofs.reading.documents_fault.Given as goal

abbrev pub invariant-loop-document : goal.invariant-loop-document
invariant-loop-document l = first_of document_fault (drop l.document-index l.documents) ≡ first_of document_fault l.documents
