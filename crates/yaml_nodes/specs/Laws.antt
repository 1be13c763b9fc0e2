-- What holds of the nodes and documents of tokens.
use Rattle.std.specs.Prelude.{◌≡◌, ◌↔◌, ℕ, List, Result, Ok, Err}
use Rattle.yaml_tokens.specs.declared.token.Token.{Token}
use Rattle.yaml_tokens.specs.declared.kind.YamlKind.TheVariants.{Shape}
use Rattle.yaml_nodes.specs.declared.node.Node.{Node}
use Rattle.yaml_nodes.specs.declared.document.Document.{Document}
use Rattle.yaml_nodes.specs.declared.cause.YamlCause.{YamlCause}
use Rattle.yaml_nodes.specs.declared.cause.YamlCause.TheVariants.{At}
use Rattle.yaml_nodes.specs.Flow.{Flow}
use Rattle.yaml_nodes.specs.Block.{Block}
use Rattle.yaml_nodes.specs.Documents.{Part, Root, Documents, ShapeAt, documents_of}

-- at most one node in flow stands at the front of tokens, and at most one on lines; a document has at most one root
abbrev pub FlowIsUnique : Type 0
FlowIsUnique = (depth : ℕ) (ts rest others : List Token) (x y : Node) → Flow depth ts x rest → Flow depth ts y others → (x ≡ y) × (rest ≡ others)

abbrev pub BlockIsUnique : Type 0
BlockIsUnique = (depth n : ℕ) (ts rest others : List Token) (x y : Node) → Block depth n ts x rest → Block depth n ts y others → (x ≡ y) × (rest ≡ others)

abbrev pub RootIsUnique : Type 0
RootIsUnique = (ts : List Token) (x y : Node) → Root ts x → Root ts y → x ≡ y

-- what parts are: documents, or at an offset no document
abbrev pub Are : List Part → Result (List Document) YamlCause → Type 0
Are ps (Ok ds) = Documents ps ds
Are ps (Err cause) = (at : ℕ) × (cause ≡ At at Shape) × ShapeAt ps at

-- the reading of parts gives just what they are
abbrev pub PartsAreRead : Type 0
PartsAreRead = (ps : List Part) (r : Result (List Document) YamlCause) → (documents_of ps ≡ r) ↔ Are ps r
