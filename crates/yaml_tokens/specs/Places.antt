-- Places in a text, as the cutter goes over it.
use Rattle.std.specs.Prelude.{◌≡◌, ℕ, zero, ◌+◌, ◌*◌, ◌<◌, ◌≤◌, ◌^◌, Bool, true, false, not, ◌&&◌, ◌==◌, List, [], ◌∷◌, ◌++◌, length, Option, Some, None, ◌⊎◌, if◌then◌else◌}
use Rattle.std.specs.Str.{byte}
use Rattle.yaml_tokens.specs.Bytes.{is_blank}
use Rattle.yaml_tokens.specs.Lines.{Line, lines}
use Rattle.yaml_tokens.specs.Pieces.{PieceRecord, cut, after, after_all, pieces}
use Rattle.yaml_tokens.specs.declared.piece.Before.{Before}
use Rattle.yaml_tokens.specs.declared.piece.Kind.TheVariants.{Begin, End}
use Rattle.yaml_tokens.specs.declared.piece.Class.{Class}
use Rattle.yaml_tokens.specs.declared.piece.Class.TheVariants.{Begins, Skipped, Stray as OutsideLine, Ends, Body}

-- a place: what is left of its line, of which column bytes were cut, and the text behind that line
pub record Place : Type 0 where
  pub line : List ℕ
  pub line_at : ℕ
  pub column : ℕ
  pub fresh : Bool
  pub after : List ℕ
  pub after_at : ℕ
  pub before : Before

-- offsets and counts don't wrap
pub record Fits (before : Before) (line_at column line after_at after : ℕ) : Type 0 where
  pub opened : before.opened ≤ line_at + column
  pub closed : before.closed ≤ line_at + column
  pub line_ends : line_at + column + line ≤ after_at
  pub text_ends : after_at + after < 2 ^ 63

-- the pieces that are left behind these of a line
abbrev pub continued : Before → List PieceRecord → List Line → List PieceRecord
continued before here ls = here ++ pieces (after_all before here) ls

-- the pieces that are left
unfoldable pub left : Place → List PieceRecord
left p = continued p.before (cut zero p.fresh p.before p.line_at p.column p.line) (lines true p.after_at p.after)

-- how much there is left to do
abbrev pub work : Place → ℕ
work p = length p.line + 2 * length p.after

-- what stands before the content of a line
abbrev pub opened : Class → Before → Before
opened Begins before = after before Begin
opened Skipped before = before
opened OutsideLine before = before
opened Ends before = after before End
opened Body before = before

-- the rest of a line from the next byte on that begins a piece
abbrev pub passed : Bool → List ℕ → List ℕ
passed fresh [] = []
passed fresh (b ∷ rest) = if is_blank b then passed true rest else (if b == byte "#" && fresh then [] else b ∷ rest)

-- a byte of the line, which fresh says is behind a blank or at the line's start, begins a piece
abbrev pub begins_piece : Bool → List ℕ → Bool
begins_piece fresh [] = false
begins_piece fresh (b ∷ rest) = not (is_blank b) && not (b == byte "#" && fresh)

-- the place goes on to the next byte that begins a piece, or to the line's end
pub record Skips (old new : Place) : Type 0 where
  pub same : left old ≡ left new
  pub work_left : work new ≤ work old
  pub begins : (new.line ≡ []) ⊎ (begins_piece new.fresh new.line ≡ true)

-- the next piece, or None where there is no more
abbrev pub Cuts : Option PieceRecord → Place → Place → Type 0
Cuts None old new = left old ≡ []
Cuts (Some p) old new = (left old ≡ p ∷ left new) × (work new < work old)

-- the next piece, or None where the line has no more
abbrev pub CutsLine : Option PieceRecord → Place → Place → Type 0
CutsLine None old new = (left old ≡ left new) × ((new.line ≡ []) × (work new ≤ work old))
CutsLine (Some p) old new = Cuts (Some p) old new

-- the first piece of the next line, or None where it's to be cut or skipped
abbrev pub OpensLine : Option PieceRecord → Place → Place → Type 0
OpensLine None old new = (left old ≡ left new) × (work new < work old)
OpensLine (Some p) old new = Cuts (Some p) old new
