-- What holds of texts and their documents.
use Rattle.std.specs.Prelude.{◌≡◌, ◌↔◌, ◌≤◌, ℕ, List, ◌∷◌, ◌++◌, Ok, Err, ◌⊎◌}
use Rattle.yaml_tokens.specs.declared.kind.Fault.{Fault}
use Rattle.yaml_nodes.specs.declared.document.Document.{Document}
use Rattle.yaml_nodes.specs.declared.cause.YamlCause.TheVariants.{At}
use Rattle.yaml_tokens.specs.Tokens.{tokens_of}
use Rattle.yaml_nodes.specs.declared.node.Node.{Node}
use Rattle.yaml_nodes.specs.Documents.{Part, Whole, Outside, Root, parts, ShapeAt}
use Rattle.yaml_profile.specs.Yaml.{Yaml, YamlFault, read_of}

-- a text has at most one list of documents, and at most one fault
abbrev pub DocumentsAreUnique : Type 0
DocumentsAreUnique = (text : List ℕ) (x y : List Document) → Yaml text x → Yaml text y → x ≡ y

abbrev pub FaultIsUnique : Type 0
FaultIsUnique = (text : List ℕ) (f g : Fault) → YamlFault text f → YamlFault text g → f ≡ g

-- it has the one or the other, and never both
abbrev pub ReadOrFaulty : Type 0
ReadOrFaulty = (text : List ℕ) → ((documents : List Document) × Yaml text documents) ⊎ ((fault : Fault) × YamlFault text fault)

abbrev pub NeverBoth : Type 0
NeverBoth = (text : List ℕ) (documents : List Document) (fault : Fault) → Yaml text documents → YamlFault text fault → ⊥

-- the reading gives just these
abbrev pub DocumentsAreRead : Type 0
DocumentsAreRead = (text : List ℕ) (documents : List Document) → (read_of text ≡ Ok documents) ↔ Yaml text documents

abbrev pub FaultIsRead : Type 0
FaultIsRead = (text : List ℕ) (fault : Fault) → (read_of text ≡ Err (At fault.at fault.kind)) ↔ YamlFault text fault

-- no other part that is no document has a lesser offset
abbrev pub start : Part → ℕ
start (Whole at tag ts) = at
start (Outside at) = at

abbrev pub IsNoDocument : Part → Type 0
IsNoDocument (Whole at tag ts) = (root : Node) → Root ts root → ⊥
IsNoDocument (Outside at) = Unit {0}

abbrev pub ShapeIsLeast : Type 0
ShapeIsLeast = (text : List ℕ) (at : ℕ) → ShapeAt (parts (tokens_of text)) at → (before behind : List Part) (p : Part) → parts (tokens_of text) ≡ before ++ p ∷ behind → IsNoDocument p → at ≤ start p
