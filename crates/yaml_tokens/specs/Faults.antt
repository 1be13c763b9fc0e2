-- What can be wrong with the pieces of a text and with its bytes, and which of these facts stands.
use Rattle.std.specs.Prelude.{ℕ, zero, suc, ◌+◌, Bool, true, false, ◌==◌, List, [], ◌∷◌, Option, Some, None, option_map, position, if◌then◌else◌}
use Rattle.yaml_tokens.specs.Bytes.{is_bad}
use Rattle.yaml_tokens.specs.Scalars.{within, bad_escape}
use Rattle.yaml_tokens.specs.Pieces.{PieceRecord, pieces_of}
use Rattle.yaml_tokens.specs.Least.{first_of}
use Rattle.yaml_tokens.specs.declared.kind.YamlKind.{YamlKind}
use Rattle.yaml_tokens.specs.declared.kind.YamlKind.TheVariants.{Tab, BadByte, Unclosed as NotClosed, BadEscape, Unsupported}
use Rattle.yaml_tokens.specs.declared.kind.Fault.{Fault}
use Rattle.yaml_tokens.specs.declared.piece.Kind.{Kind}
use Rattle.yaml_tokens.specs.declared.piece.Kind.TheVariants.{Begin, End, Stray, Line, Open, Close, Colon, Dash, Plain, Single, Double, Unclosed, LeftOut, Other}

-- the offset of a piece
abbrev pub offset : PieceRecord → ℕ
offset p = p.line + p.column

abbrev pub fault_at : ℕ → YamlKind → Fault
fault_at at kind = record { at = at; kind = kind }

-- the first tab of an indentation
abbrev pub tab_fault : PieceRecord → Option Fault
tab_fault p = option_map (λ i. fault_at (offset p + i) Tab) (position (λ b. b == 9) p.bytes)

-- the first backslash between double quotes that begins no escape
abbrev pub escape_fault : PieceRecord → Option Fault
escape_fault p = option_map (λ i. fault_at (offset p + (1 + i)) BadEscape) (bad_escape zero 0 (within p.bytes))

-- what is wrong with a piece alone, by its kind
abbrev pub fault_by : Kind → PieceRecord → Option Fault
fault_by Stray p = tab_fault p
fault_by Line p = tab_fault p
fault_by Double p = escape_fault p
fault_by Unclosed p = Some (fault_at (offset p) NotClosed)
fault_by LeftOut p = Some (fault_at (offset p) Unsupported)
fault_by Begin p = None
fault_by End p = None
fault_by Open p = None
fault_by Close p = None
fault_by Colon p = None
fault_by Dash p = None
fault_by Plain p = None
fault_by Single p = None
fault_by Other p = None

unfoldable pub own_fault : PieceRecord → Option Fault
own_fault p = fault_by p.kind p

-- the least of these
abbrev pub least : List PieceRecord → Option Fault
least [] = None
least (p ∷ ps) = first_of (own_fault p) (least ps)

-- how a piece changes the count of open brackets; the count ends with its document
pub data Step : Type 0 where
  Up : Step
  Down : Step
  Level : Step
  Fresh : Step

abbrev pub step_of : Kind → Step
step_of Open = Up
step_of Close = Down
step_of Begin = Fresh
step_of _ = Level

-- of so many brackets the first one stays open: the count never comes back to none before the document ends
abbrev pub stays_open : ℕ → List PieceRecord → Bool
stays_open zero ps = false
stays_open (suc n) [] = true
stays_open (suc n) (p ∷ ps) = elim (step_of p.kind) [ Up ↦ stays_open (suc (suc n)) ps | Down ↦ stays_open n ps | Level ↦ stays_open (suc n) ps | Fresh ↦ true ]

-- the first bracket that stays open
abbrev pub unclosed : List PieceRecord → Option Fault
unclosed [] = None
unclosed (p ∷ ps) = elim (step_of p.kind) [ Up ↦ if stays_open 1 ps then Some (fault_at (offset p) NotClosed) else unclosed ps | Down ↦ unclosed ps | Level ↦ unclosed ps | Fresh ↦ unclosed ps ]

-- the first byte from at on that no text has
abbrev pub bad_byte : ℕ → List ℕ → Option Fault
bad_byte at [] = None
bad_byte at (b ∷ rest) = if is_bad b rest then Some (fault_at at BadByte) else bad_byte (at + 1) rest

-- the fault of a text's tokens: the least of these facts
unfoldable pub piece_fault : List PieceRecord → Option Fault
piece_fault ps = first_of (least ps) (unclosed ps)

abbrev pub fault_of : List ℕ → Option Fault
fault_of text = first_of (bad_byte 0 text) (piece_fault (pieces_of text))
