use Rattle.std.proofs.Common.{◌≡◌, drop}
use Rattle.std.specs.Prelude.{is_some}
use Rattle.std.specs.List.{list_all}
use Rattle.tbd_v4_read.specs.Text.{map_of}
use Rattle.tbd_v4_read.proofs.reading.all_stubs.Given as goal

abbrev pub invariant-loop-document : goal.invariant-loop-document
invariant-loop-document l = list_all (λ d. is_some (map_of d)) (drop l.document-index l.documents) ≡ list_all (λ d. is_some (map_of d)) l.documents
