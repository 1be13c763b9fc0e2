use Rattle.std.proofs.Common.{◌≡◌, length}
use Rattle.yaml_nodes.specs.Documents.{behind_documents, documents_of, parts}
use Rattle.yaml_nodes.proofs.document.documents.Given as goal

abbrev pub invariant-loop-first : goal.invariant-loop-first
invariant-loop-first l = documents_of (parts l.fn.tokens) ≡ behind_documents l.found.items (documents_of (parts l.rest))

abbrev pub decreases-loop-first : goal.decreases-loop-first
decreases-loop-first l = length l.rest
