-- The libraries that a text is, or the first cause why it is none.
use Rattle.std.specs.Prelude.{ℕ, Bool, ◌&&◌, List, [], ◌∷◌, map, Option, Some, None, Result, Ok, Err, is_some, unwrap_or, if◌then◌else◌, codes}
use Rattle.std.specs.List.{list_all}
use Rattle.ifs_bytes.specs.Outcome.{◌>>=◌, check}
use Rattle.ifs_interface.specs.Triple.{same_name}
use Rattle.yaml_nodes.specs.declared.node.Node.{Node}
use Rattle.yaml_nodes.specs.declared.node.Entry.{Entry}
use Rattle.yaml_nodes.specs.declared.document.Document.{Document}
use Rattle.yaml_nodes.specs.declared.cause.YamlCause.{YamlCause}
use Rattle.yaml_nodes.specs.Nodes.{entries_of}
use Rattle.yaml_maps.specs.Maps.{first_of}
use Rattle.yaml_profile.specs.Yaml.{read_of}
use Rattle.tbd_core.specs.declared.dylib.DylibParts.{DylibParts}
use Rattle.tbd_core.specs.declared.dylib.Tbd.{Tbd}
use Rattle.tbd_core.specs.declared.cause.TbdCause.{TbdCause}
use Rattle.tbd_core.specs.declared.cause.TbdCause.TheVariants.{NotTbd}
use Rattle.tbd_core.specs.Cause.{yaml_cause}
use Rattle.tbd_core.specs.Normal.{is_some_list}
use Rattle.tbd_v4_read.specs.Faults.{library_fault}
use Rattle.tbd_v4_read.specs.Library.{parts_of}

-- the map of a document with the tag
abbrev pub tagged : Option (List ℕ) → Node → Option (List Entry)
tagged None root = None
tagged (Some tag) root = if same_name tag (codes "!tapi-tbd") then entries_of root else None

unfoldable pub map_of : Document → Option (List Entry)
map_of d = tagged d.tag d.root

-- one document or more, each with the tag and a map
unfoldable pub are_stubs : List Document → Bool
are_stubs documents = is_some_list documents && list_all (λ d. is_some (map_of d)) documents

abbrev pub map_in : Document → List Entry
map_in d = unwrap_or (map_of d) []

unfoldable pub document_fault : Document → Option TbdCause
document_fault d = library_fault (map_in d)

unfoldable pub document_parts : Document → DylibParts
document_parts d = parts_of (map_in d)

-- nothing is wrong, or the cause
abbrev pub unless : Option TbdCause → Result (Unit {0}) TbdCause
unless None = Ok tt
unless (Some cause) = Err cause

-- the library of the first document, and those that are part of it
unfoldable pub tbd_of : List Document → Result Tbd TbdCause
tbd_of [] = Err NotTbd
tbd_of (d ∷ ds) = Ok (record { main = document_parts d; inlined = map document_parts ds })

-- what is wrong with one document goes before what is wrong with the next
unfoldable pub tbd_in : List Document → Result Tbd TbdCause
tbd_in documents = do
  _ ← check (are_stubs documents) NotTbd
  _ ← unless (first_of document_fault documents)
  tbd_of documents

abbrev pub or_yaml : Result (List Document) YamlCause → Result (List Document) TbdCause
or_yaml (Ok documents) = Ok documents
or_yaml (Err cause) = Err (yaml_cause cause)

-- the libraries of a text, or the first cause
unfoldable pub read_tbd : List ℕ → Result Tbd TbdCause
read_tbd text = do
  documents ← or_yaml (read_of text)
  tbd_in documents
