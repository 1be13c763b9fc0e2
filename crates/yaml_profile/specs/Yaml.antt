-- The documents that a text is, or what is wrong with it (YAML 1.2, the profile of docs/format/yaml.md).
use Rattle.std.specs.Prelude.{◌≡◌, ℕ, List, Option, Some, None, Result, Err, ◌⊎◌}
use Rattle.yaml_tokens.specs.Faults.{fault_of}
use Rattle.yaml_tokens.specs.Tokens.{tokens_of}
use Rattle.yaml_tokens.specs.declared.kind.Fault.{Fault}
use Rattle.yaml_tokens.specs.declared.kind.YamlKind.TheVariants.{Shape}
use Rattle.yaml_nodes.specs.declared.document.Document.{Document}
use Rattle.yaml_nodes.specs.declared.cause.YamlCause.{YamlCause}
use Rattle.yaml_nodes.specs.declared.cause.YamlCause.TheVariants.{At}
use Rattle.yaml_nodes.specs.Documents.{parts, Documents, ShapeAt, documents_of}

-- nothing is wrong with the tokens of the text, and its parts are these documents
abbrev pub Yaml : List ℕ → List Document → Type 0
Yaml text documents = (fault_of text ≡ None) × Documents (parts (tokens_of text)) documents

-- the fault of its tokens stands; where they have none, the first part of the text that is no document
abbrev pub YamlFault : List ℕ → Fault → Type 0
YamlFault text fault = (fault_of text ≡ Some fault) ⊎ ((fault_of text ≡ None) × (fault.kind ≡ Shape) × ShapeAt (parts (tokens_of text)) fault.at)

-- the same as a reading
abbrev pub read_by : Option Fault → Result (List Document) YamlCause → Result (List Document) YamlCause
read_by None documents = documents
read_by (Some fault) documents = Err (At fault.at fault.kind)

abbrev pub read_of : List ℕ → Result (List Document) YamlCause
read_of text = read_by (fault_of text) (documents_of (parts (tokens_of text)))
