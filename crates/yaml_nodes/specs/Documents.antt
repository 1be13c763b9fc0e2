-- The documents of a text (YAML 1.2, chapter 9), cut by the lines that begin and end them alone.
use Rattle.std.specs.Prelude.{◌≡◌, ℕ, Bool, true, false, ◌||◌, ◌==◌, List, [], ◌∷◌, ◌++◌, Option, Some, None, Result, Ok, Err, ◌⊎◌, if◌then◌else◌}
use Rattle.yaml_tokens.specs.declared.token.Token.{Token}
use Rattle.yaml_tokens.specs.declared.token.Token.TheVariants as token
use Rattle.yaml_tokens.specs.Parts.{body}
use Rattle.yaml_tokens.specs.declared.kind.YamlKind.TheVariants.{Shape}
use Rattle.yaml_nodes.specs.declared.node.Node.{Node}
use Rattle.yaml_nodes.specs.declared.document.Document.{Document}
use Rattle.yaml_nodes.specs.declared.cause.YamlCause.{YamlCause}
use Rattle.yaml_nodes.specs.declared.cause.YamlCause.TheVariants.{At, Memory}
use Rattle.yaml_nodes.specs.Nodes.{blank}
use Rattle.yaml_nodes.specs.Front.{Front}
use Rattle.yaml_nodes.specs.Flow.{Flow, flow}
use Rattle.yaml_nodes.specs.Block.{begins_entry, begins_item, Block, block}

-- at most so many maps and sequences stand in one another
abbrev pub max_depth : ℕ
max_depth = 16

-- the root of a document: nothing, or one node at column 0
pub data Root : List Token → Node → Type 0 where
  nothing : Root [] blank
  inline : {ts : List Token} {value : Node} → Flow max_depth ts value [] → Root (token.Line 0 ∷ ts) value
  lines : {ts : List Token} {value : Node} → Block max_depth 0 ts value [] → Root (token.Line 0 ∷ ts) value

-- a document, by the offset of its first line, its tag and its tokens; or a line outside documents, by its offset
pub data Part : Type 0 where
  Whole : ℕ → Option (List ℕ) → List Token → Part
  Outside : ℕ → Part

-- the parts of a text, by its tokens
abbrev pub parts : List Token → List Part
parts [] = []
parts (token.Begin at tag ∷ ts) = Whole at tag (body ts) ∷ parts ts
parts (token.Stray at ∷ ts) = Outside at ∷ parts ts
parts (t ∷ ts) = parts ts

abbrev pub document : Option (List ℕ) → Node → Document
document tag root = record { tag = tag; root = root }

-- each part is a document, and these are they
pub data Documents : List Part → List Document → Type 0 where
  none : Documents [] []
  one : {at : ℕ} {tag : Option (List ℕ)} {ts : List Token} {root : Node} {ps : List Part} {ds : List Document} → Root ts root → Documents ps ds → Documents (Whole at tag ts ∷ ps) (document tag root ∷ ds)

-- of the parts that are no documents the first stands at this offset
pub data ShapeAt : List Part → ℕ → Type 0 where
  stray : {at : ℕ} {ps : List Part} → ShapeAt (Outside at ∷ ps) at
  unread : {at : ℕ} {tag : Option (List ℕ)} {ts : List Token} {ps : List Part} → ((root : Node) → Root ts root → ⊥) → ShapeAt (Whole at tag ts ∷ ps) at
  later : {start at : ℕ} {tag : Option (List ℕ)} {ts : List Token} {root : Node} {ps : List Part} → Root ts root → ShapeAt ps at → ShapeAt (Whole start tag ts ∷ ps) at

-- the same as readings
abbrev pub is_end : List Token → Bool
is_end [] = true
is_end (t ∷ rest) = false

abbrev pub alone : Option (Front Node) → Option Node
alone None = None
alone (Some found) = if is_end found.rest then Some found.value else None

abbrev pub root_at : List Token → Option Node
root_at ts = if begins_item ts || begins_entry ts then alone (block max_depth 0 ts) else alone (flow max_depth ts)

abbrev pub root_of : List Token → Option Node
root_of [] = Some blank
root_of (token.Line column ∷ ts) = if column == 0 then root_at ts else None
root_of _ = None

abbrev pub document_by : ℕ → Option (List ℕ) → Option Node → Result Document YamlCause
document_by at tag None = Err (At at Shape)
document_by at tag (Some root) = Ok (document tag root)

abbrev pub document_of : ℕ → Option (List ℕ) → List Token → Result Document YamlCause
document_of at tag ts = document_by at tag (root_of ts)

-- with these before them
abbrev pub behind_documents : List Document → Result (List Document) YamlCause → Result (List Document) YamlCause
behind_documents ds (Ok es) = Ok (ds ++ es)
behind_documents ds (Err cause) = Err cause

abbrev pub and_documents : Result Document YamlCause → Result (List Document) YamlCause → Result (List Document) YamlCause
and_documents (Ok d) rest = behind_documents (d ∷ []) rest
and_documents (Err cause) rest = Err cause

abbrev pub documents_of : List Part → Result (List Document) YamlCause
documents_of [] = Ok []
documents_of (Outside at ∷ ps) = Err (At at Shape)
documents_of (Whole at tag ts ∷ ps) = and_documents (document_of at tag ts) (documents_of ps)

-- what a token adds to the documents before it, by the tokens behind it
abbrev pub added_by : Result Document YamlCause → Result (List Document) YamlCause
added_by (Ok d) = Ok (d ∷ [])
added_by (Err cause) = Err cause

abbrev pub added : Token → List Token → Result (List Document) YamlCause
added (token.Begin at tag) ts = added_by (document_of at tag (body ts))
added (token.Stray at) ts = Err (At at Shape)
added _ ts = Ok []

-- the call added what is meant, or answered why it can't
abbrev pub Adds : Result (Unit {0}) YamlCause → List Document → List Document → Result (List Document) YamlCause → Type 0
Adds (Ok _) old new meant = Ok new ≡ behind_documents old meant
Adds (Err cause) old new meant = (cause ≡ Memory) ⊎ (Err cause ≡ meant)

-- the tokens are those of one document, which is the last of a text
abbrev pub EndsAs : List Token → Option Document → Type 0
EndsAs ts None = Unit {0}
EndsAs ts (Some d) = documents_of (parts ts) ≡ Ok (d ∷ [])
