-- What it means that a printed scalar is read back.
use Rattle.std.specs.Prelude.{◌≡◌, ℕ, zero, ◌+◌, Bool, false, nat_lt, List, [], ◌∷◌, ◌++◌, length, Some, None, Result, Ok, codes}
use Rattle.std.specs.List.{list_any}
use Rattle.yaml_tokens.specs.Scalars.{plain_size}
use Rattle.yaml_tokens.specs.Pieces.{PieceRecord, in_flow, cut, after}
use Rattle.yaml_tokens.specs.Faults.{Level, step_of, own_fault}
use Rattle.yaml_tokens.specs.Tokens.{token_of}
use Rattle.yaml_tokens.specs.declared.piece.Before.{Before}
use Rattle.yaml_tokens.specs.declared.piece.Kind.{Kind}
use Rattle.yaml_tokens.specs.declared.token.Token.TheVariants as token
use Rattle.yaml_nodes.specs.declared.node.Node.{Node}
use Rattle.yaml_nodes.specs.declared.node.Node.TheVariants as node
use Rattle.yaml_nodes.specs.declared.document.Document.{Document}
use Rattle.yaml_nodes.specs.declared.cause.YamlCause.{YamlCause}
use Rattle.yaml_nodes.specs.Nodes.{entry}
use Rattle.yaml_nodes.specs.Documents.{document}
use Rattle.yaml_profile.specs.Yaml.{read_of}
use Rattle.yaml_profile.specs.Printed.{printed_scalar}

abbrev pub printed_piece : List ℕ → Kind → ℕ → ℕ → PieceRecord
printed_piece text kind at column = record { line = at; column = column; kind = kind; bytes = printed_scalar text }

-- on a line, where rest follows it, a printed scalar is one piece, and its token is the text
pub record ReadsBack (text rest : List ℕ) (fresh : Bool) (before : Before) (at column : ℕ) (kind : Kind) : Type 0 where
  pub pieces : cut zero fresh before at column (printed_scalar text ++ rest)
      ≡ printed_piece text kind at column ∷ cut zero false (after before kind) at (column + length (printed_scalar text)) rest
  pub token : token_of (printed_piece text kind at column) ≡ Some (token.Scalar text)
  pub good : own_fault (printed_piece text kind at column) ≡ None
  pub level : step_of kind ≡ Level

-- so it is at each place of a line, in flow or not, where what follows begins with no more of a plain scalar: the line's
-- end, blanks before it, a colon before a gap, a comment, or in flow a comma or a bracket, with blanks before it or not
abbrev pub PrintedIsOneToken : Type 0
PrintedIsOneToken = (text rest : List ℕ) (fresh : Bool) (before : Before) (at column : ℕ) → plain_size (in_flow before) rest ≡ 0 → (kind : Kind) × ReadsBack text rest fresh before at column kind

-- and it stands on one line, without control characters
abbrev pub PrintedIsOnOneLine : Type 0
PrintedIsOnOneLine = (text : List ℕ) → list_any (λ b. nat_lt b 32) (printed_scalar text) ≡ false

-- a document of one line
abbrev pub in_document : List ℕ → List ℕ
in_document line = codes "---" ++ 10 ∷ (line ++ 10 ∷ [])

abbrev pub one_root : Node → Result (List Document) YamlCause
one_root root = Ok (document None root ∷ [])

-- where printers put it: as a value behind its key, in a map in flow, and as an item
pub record StandsInTexts (scalar : List ℕ) : Type 0 where
  pub value : read_of (in_document (codes "k: " ++ printed_scalar scalar)) ≡ one_root (node.Map (entry (codes "k") (node.Scalar scalar) ∷ []))
  pub in_flow : read_of (in_document (codes "{ k: " ++ printed_scalar scalar ++ codes " }")) ≡ one_root (node.Map (entry (codes "k") (node.Scalar scalar) ∷ []))
  pub item : read_of (in_document (codes "- " ++ printed_scalar scalar)) ≡ one_root (node.Seq (node.Scalar scalar ∷ []))

abbrev pub PrintedStandsInTexts : Type 0
PrintedStandsInTexts = (scalar : List ℕ) → StandsInTexts scalar
