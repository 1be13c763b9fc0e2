use Rattle.std.proofs.Common.{◌≡◌, ◌++◌, map, drop}
use Rattle.tbd_v4_read.specs.Text.{document_parts}
use Rattle.tbd_v4_read.proofs.reading.libraries.Given as goal

abbrev pub invariant-loop-document : goal.invariant-loop-document
invariant-loop-document l = l.dylibs.items ++ map document_parts (drop l.document-index l.documents) ≡ map document_parts l.documents
